use Rattle.sok_price.specs.Matched.{Serves}
use Rattle.sok_test_board.proofs.matching.set_in_turn.Given as goal

abbrev pub invariant-loop-squares : goal.invariant-loop-squares
invariant-loop-squares g l = Serves l.board l.matching

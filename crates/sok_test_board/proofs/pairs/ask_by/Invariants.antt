use Rattle.sok_alone.specs.Losses.{KeepsLosses}
use Rattle.sok_test_board.proofs.pairs.ask_by.Given as goal

abbrev pub invariant-loop-round : goal.invariant-loop-round
invariant-loop-round g l = KeepsLosses l.setting.board.now l.losses

abbrev pub invariant-loop-case : goal.invariant-loop-case
invariant-loop-case g l = KeepsLosses l.setting.board.now l.losses

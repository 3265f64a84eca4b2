use Rattle.sok_price.proofs.Words.{AreTold}
use Rattle.sok_price.proofs.costs.Costs.tabled.Given as goal

abbrev pub invariant-loop-square : goal.invariant-loop-square
invariant-loop-square l = AreTold l.distances.board (λ square. square) l.goals l.square l.entries.items

use Rattle.sok_price.proofs.Words.{AreRaised}
use Rattle.sok_price.proofs.search.raise_boxes.Given as goal

abbrev pub invariant-loop-at : goal.invariant-loop-at
invariant-loop-at l = AreRaised (λ branch. branch.member) l.total l.branches 0 l.at l.initial.prices l.prices

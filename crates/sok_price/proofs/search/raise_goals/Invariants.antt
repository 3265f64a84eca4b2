use Rattle.sok_price.proofs.Words.{AreRaised}
use Rattle.sok_price.proofs.search.raise_goals.Given as goal

abbrev pub invariant-loop-at : goal.invariant-loop-at
invariant-loop-at l = AreRaised (λ branch. branch.goal) l.total l.branches 1 l.at l.initial.prices l.prices

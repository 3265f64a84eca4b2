use Rattle.sok_price.proofs.Words.{ℕ, ◌<◌, Contains, get_or, length}
use Rattle.sok_price.proofs.settle.stale.Given as goal

abbrev pub invariant-loop-k : goal.invariant-loop-k
invariant-loop-k l = (j : ℕ) → j < l.k → get_or l.rows j 0 < length l.marks → Contains l.boxes (get_or l.rows j 0)

use Rattle.sok_price.proofs.Words.{ℕ, ◌<◌, Contains, get_or}
use Rattle.sok_price.proofs.settle.missing.Given as goal

abbrev pub invariant-loop-square : goal.invariant-loop-square
invariant-loop-square l = (j : ℕ) → j < l.square-index → Contains l.rows (get_or l.boxes j 0)

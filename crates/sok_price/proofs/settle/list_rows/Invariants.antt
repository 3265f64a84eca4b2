use Rattle.sok_price.proofs.Words.{get_or, length, ◌≡◌, ◌≤◌, ◌<◌, ℕ}
use Rattle.sok_price.proofs.settle.list_rows.Given as goal

abbrev pub invariant-loop-k : goal.invariant-loop-k
invariant-loop-k l =
    (length l.rows.items ≡ length l.fn.rows.items) × ((j : ℕ) → j < l.k → get_or l.rows.items j 0 ≡ get_or l.boxes j 0)
    × ((j : ℕ) → l.k ≤ j → j < length l.rows.items → get_or l.rows.items j 0 ≡ l.squares)

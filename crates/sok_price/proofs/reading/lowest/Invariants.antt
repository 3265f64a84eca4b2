use Rattle.sok_price.proofs.Words.{ℕ, ◌<◌, ◌≤◌, All, get_or}
use Rattle.sok_price.proofs.reading.lowest.Given as goal

abbrev pub invariant-loop-price : goal.invariant-loop-price
invariant-loop-price l =
    ((k : ℕ) → k < l.price-index → l.low ≤ get_or l.prices k 0)
    × ((limit : ℕ) → limit ≤ l.ceiling → All (λ price. limit ≤ price) l.prices → limit ≤ l.low)

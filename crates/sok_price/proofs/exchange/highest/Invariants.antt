use Rattle.sok_price.proofs.Words.{ℕ, ◌<◌, ◌≤◌, All, get_or}
use Rattle.sok_price.proofs.exchange.highest.Given as goal

abbrev pub invariant-loop-price : goal.invariant-loop-price
invariant-loop-price l =
    (l.floor ≤ l.high) × ((k : ℕ) → k < l.price-index → get_or l.prices k 0 ≤ l.high)
    × ((limit : ℕ) → l.floor ≤ limit → All (λ price. price ≤ limit) l.prices → l.high ≤ limit)

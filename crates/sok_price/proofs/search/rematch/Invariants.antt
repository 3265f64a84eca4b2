use Rattle.sok_price.proofs.Words.{ℕ, ◌≡◌, ◌<◌, ◌+◌, length, Costing, IsMatched, growth_of, IsReached, KeepsRoom, GoesTight}
use Rattle.sok_price.proofs.Rematching.{IsPath}
use Rattle.sok_price.proofs.search.rematch.Given as goal

abbrev pub invariant-loop-at : goal.invariant-loop-at
invariant-loop-at l =
    (growth_of l.search ≡ record (growth_of l.fn.search) { goal_of = l.search.goal_of.items }) × (l.at < length l.fn.search.branches.items)
    × (length l.search.goal_of.items ≡ length l.fn.search.goal_of.items + 1)
    × KeepsRoom l.fn.search l.search
    × ((cost : Costing) (members goals floor : ℕ) → IsMatched cost members goals floor l.fn.search.u.items l.fn.search.v.items l.fn.search.goal_of.items
    → GoesTight cost l.fn.search.u.items l.fn.search.v.items l.fn.search.branches.items
    → IsReached cost (growth_of l.fn.search) l.fn.near → IsPath cost (growth_of l.fn.search) l.at l.search.goal_of.items)

abbrev pub decreases-loop-at : goal.decreases-loop-at
decreases-loop-at l = l.at

use Rattle.sok_price.proofs.Words.{◌≡◌, ◌-◌, length, cost_of, growth_of, HasRoom, IsAhead}
use Rattle.sok_price.proofs.search.grow.Given as goal

abbrev pub invariant-growing : goal.invariant-growing
invariant-growing l =
    IsAhead (cost_of l.costs l.rows) (length l.rows) l.costs.goals (growth_of l.search)
    × (l.search.goal_of.items ≡ l.fn.search.goal_of.items) × (l.search.floor ≡ l.fn.search.floor) × HasRoom (length l.rows) l.search

abbrev pub decreases-growing : goal.decreases-growing
decreases-growing l = (length l.rows) - length l.search.branches.items

use Rattle.sok_price.proofs.Words.{◌≡◌, ◌≤◌, length, cost_of, growth_of, HasRoom, IsReady}
use Rattle.sok_price.proofs.search.match_all.Given as goal

abbrev pub invariant-loop : goal.invariant-loop
invariant-loop l = IsReady (cost_of l.costs l.rows) (length l.rows) l.costs.goals (growth_of l.search) × (length l.search.goal_of.items ≡ l.counter)
    × (l.counter ≤ (length l.rows)) × (l.search.floor ≡ l.fn.search.floor) × HasRoom (length l.rows) l.search

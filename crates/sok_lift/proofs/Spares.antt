-- How much distances fall short of falling by one, and what a push wastes by that.
use Rattle.std.proofs.Common.{ℕ, ◌≡◌, ◌<◌, ◌≤◌, ◌+◌, ◌∙◌, arith, length, subst}
use Rattle.std.proofs.lemmas.List.{get_or_default}
use Rattle.sok_board.specs.Area.{BoardView, goals_of}
use Rattle.sok_distance.specs.Distances.{goal_at}
use Rattle.sok_distance.specs.Pushing.{Chain}
use Rattle.sok_lift.specs.Lifts.{Wastes}

-- a push wastes so many on the way to a goal
abbrev pub WastesTo : BoardView → ℕ → ℕ → ℕ → ℕ → Type 0
WastesTo b from to g waste = (n : ℕ) → Chain b to g n → (m : ℕ) × Chain b from g m × (m + waste ≤ n + 1)

-- and less
pub WastesTo-less : (b : BoardView) (from to g waste less : ℕ) → less ≤ waste → WastesTo b from to g waste → WastesTo b from to g less
WastesTo-less b from to g waste less below wastes = λ n chain. let (m, way, few) = wastes n chain in (m, way, omega (arith, few, below))

-- so many on the way to each goal
pub Wastes-goals : (b : BoardView) (from to waste goals : ℕ) → length (goals_of b) ≤ goals → ((k : ℕ) → k < goals → WastesTo b from to (goal_at b k) waste)
    → Wastes b from to waste
Wastes-goals b from to waste goals all each = record {
  each = λ g n (k, within, is) chain.
      let at : goal_at b k ≡ g = get_or_default (goals_of b) k 0 g within ∙ is in
      subst (λ h. WastesTo b from to h waste) at (each k (omega (arith, within, all))) n chain;
}

-- What is reached from a position.
use Rattle.std.proofs.Common.{◌≡◌, ◌∙◌, ◌++◌, ◌∷◌, [], ap, sym, subst, List, Some, IsSomeAnd}
use Rattle.std.specs.Option.{option_and_then}
use Rattle.sok_rules.specs.declared.cell.Dir.{Dir}
use Rattle.sok_rules.specs.Squares.{Rows}
use Rattle.sok_rules.specs.Play.{After, AllOnGoals, Position, SolvesFrom, run, step}
use Rattle.sok_rules.specs.States.{ReachedFrom, Same}
use Rattle.sok_rules.proofs.Runs.{run-append}

-- what is reached on from a position that is reached
pub reached-on : (rows : Rows) (from x y : Position) → ReachedFrom rows from x → ReachedFrom rows x y → ReachedFrom rows from y
reached-on rows from x y (w, leads) (v, on) = (w ++ v, run-append rows w v from ∙ ap (option_and_then (λ z. run rows z v)) leads ∙ on)

-- and on by a walk
pub reached-walk : (rows : Rows) (from x y : Position) → ReachedFrom rows from x → Same rows x y → ReachedFrom rows from y
reached-walk rows from x y reached walk = reached-on rows from x y reached (walk.0, walk.1)

-- and on by a letter
pub reached-step : (rows : Rows) (from x : Position) (d : Dir) (after : After) → ReachedFrom rows from x → step rows d x ≡ Some after
    → ReachedFrom rows from after.position
reached-step rows from x d after reached steps =
    reached-on rows from x after.position reached (d ∷ [], ap (option_and_then (λ (a : After). Some a.position)) steps)

-- what is solved on from a position that is reached
pub reached-solves : (rows : Rows) (from x : Position) → ReachedFrom rows from x → (w : List Dir) → SolvesFrom rows x w → (v : List Dir) × SolvesFrom rows from v
reached-solves rows from x (v, leads) w solves = (
  v ++ w,
  subst (λ o. IsSomeAnd o (AllOnGoals rows)) (sym (run-append rows v w from ∙ ap (option_and_then (λ z. run rows z w)) leads)) solves,
)

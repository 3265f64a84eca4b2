-- A scene that is played letter by letter follows the run.
use Rattle.std.proofs.Common.{IsSome, IsNone, ℕ, ◌≡◌, ◌<◌, ◌≤◌, ◌+◌, ◌↔◌, refl, sym, ap, ◌∙◌, subst, List, length, take, get_or}
use Rattle.std.proofs.Common.{Bool, true, false, not, ◌&&◌, Option, Some, None, IsSomeAnd, if◌then◌else◌, arith}
use Rattle.std.specs.Option.{option_and_then}
use Rattle.sok_rules.specs.declared.cell.Dir.{Dir}
use Rattle.sok_rules.specs.declared.cell.Spot.{Spot}
use Rattle.sok_rules.specs.Squares.{Rows, next}
use Rattle.sok_rules.specs.Play.{After, AllOnGoals, Position, SolvesFrom, moved, one_if, pushes, run, start, step}
use Rattle.sok_rules.specs.Replay.{IsBlockedAt}
use Rattle.sok_rules.specs.Scene.{SameGround, Steps}
use Rattle.sok_rules.proofs.Runs.{pushes-take_more, run-take_more}
use Rattle.sok_rules.proofs.Scenes.{SameGround-trans}

-- the step over a set of open squares
step_over : (Spot → Bool) → Dir → Position → Option After
step_over opened d x =
    option_and_then (λ q. if not (opened q) then None
    else if x.boxes q then option_and_then (λ t. if opened t && not (x.boxes t) then Some
    (record { position = record { man = q; boxes = moved x.boxes q t }; pushed = true }) else None) (next d q)
    else Some (record { position = record x { man = q }; pushed = false })) (next d x.man)

-- on the same ground a letter does the same
pub step-SameGround : (rows now : Rows) (d : Dir) (x : Position) → SameGround rows now → step rows d x ≡ step now d x
unfolding step_over
step-SameGround rows now d x ground = λ i. step_over (λ s. sym (ground.opened s) i) d x

-- all boxes are on goals, on the same ground
pub solved-SameGround : (rows now : Rows) (w : List Dir) → SameGround rows now → run rows (start rows) w ≡ Some (start now)
    → AllOnGoals now (start now) ↔ SolvesFrom rows (start rows) w
solved-SameGround rows now w ground ran = (
  λ solved. subst (λ o. IsSomeAnd o (AllOnGoals rows)) (sym ran) (λ s boxed. sym (ground.goals s) ∙ solved s boxed),
  λ solves. let there : AllOnGoals rows (start now) = subst (λ o. IsSomeAnd o (AllOnGoals rows)) ran solves in λ s boxed. ground.goals s ∙ there s boxed,
)

-- a scene after one more legal letter of a list
pub record GoesOn (rows new : Rows) (w : List Dir) (at : ℕ) (pushed : Bool) : Type 0 where
  pub ground : SameGround rows new
  pub ran : run rows (start rows) (take (at + 1) w) ≡ Some (start new)
  pub counted : pushes rows (start rows) (take (at + 1) w) ≡ pushes rows (start rows) (take at w) + one_if pushed

pub GoesOn-from_Steps : (rows now new : Rows) (w : List Dir) (at : ℕ) (other : Dir) (pushed : Bool) → at < length w → SameGround rows now
    → run rows (start rows) (take at w) ≡ Some (start now) → Steps now (get_or w at other) pushed new → GoesOn rows new w at pushed
GoesOn-from_Steps rows now new w at other pushed within ground so_far steps =
    let leads = step-SameGround rows now (get_or w at other) (start now) ground ∙ steps.leads in
    record {
      ground = SameGround-trans rows now new ground steps.ground;
      ran = run-take_more rows (start rows) (start now) w at other within so_far ∙ ap (option_and_then (λ (after : After). Some after.position)) leads;
      counted = pushes-take_more rows (start rows) (start now) w at other (record { position = start new; pushed = pushed }) within so_far leads;
    }

-- a list whose next letter is not legal
pub IsBlockedAt-from_None : (rows now : Rows) (w : List Dir) (at : ℕ) (other : Dir) → at < length w → SameGround rows now
    → run rows (start rows) (take at w) ≡ Some (start now) → step now (get_or w at other) (start now) ≡ None → IsBlockedAt rows w at
IsBlockedAt-from_None rows now w at other within ground so_far none = record {
  within = within;
  legal = subst IsSome (sym so_far) refl;
  blocked = subst IsNone
      (sym (run-take_more rows (start rows) (start now) w at other within so_far
      ∙ ap (option_and_then (λ (after : After). Some after.position)) (step-SameGround rows now (get_or w at other) (start now) ground ∙ none)))
      refl;
}

pub one_if-is : (b : Bool) → (one_if b ≡ (if b then 1 else 0)) × (one_if b ≤ 1)
one_if-is true = (refl, omega arith)
one_if-is false = (refl, omega arith)

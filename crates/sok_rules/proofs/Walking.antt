-- Walking: being the same state is reflexive, transitive and, where the player stands where he may, symmetric.
use Rattle.std.proofs.Common.{ℕ, ◌≡◌, ◌+◌, refl, sym, ap, ◌∙◌, subst, List, [], ◌∷◌, ◌++◌, Bool, true, false, Some, None, arith}
use Rattle.std.proofs.lemmas.Option.{same_Some, none-some}
use Rattle.std.specs.Option.{option_and_then, option_map_or}
use Rattle.sok_rules.specs.declared.cell.Dir.{Dir}
use Rattle.sok_rules.specs.Squares.{Rows, opposite}
use Rattle.sok_rules.specs.Play.{After, Position, one_if, pushes, run, step}
use Rattle.sok_rules.specs.States.{Same}
use Rattle.sok_rules.proofs.Runs.{IsStanding-run, pushes-append, run-append}
use Rattle.sok_rules.proofs.Steps.{IsStanding, IsStanding-step, step-back, walk_step}

-- where no letter pushes, the first does not, nor do those after it
pub not_pushed : (b : Bool) (n : ℕ) → one_if b + n ≡ 0 → (b ≡ false) × (n ≡ 0)
not_pushed true n e = absurd (omega (arith, e))
not_pushed false n e = (refl, omega (arith, e))

-- a list without a push begins with a letter without one
pub quiet_step : {P : Type 0} (rows : Rows) (d : Dir) (w : List Dir) (x y : Position) → run rows x (d ∷ w) ≡ Some y → pushes rows x (d ∷ w) ≡ 0
    → ((a : After) → step rows d x ≡ Some a → a.pushed ≡ false → run rows a.position w ≡ Some y → pushes rows a.position w ≡ 0 → P) → P
quiet_step {P} rows d w x y = elim (step rows d x) as (λ o. option_and_then (λ after. run rows after.position w) o ≡ Some y
    → option_map_or (λ after. one_if after.pushed + pushes rows after.position w) o 0 ≡ 0
    → ((a : After) → o ≡ Some a → a.pushed ≡ false → run rows a.position w ≡ Some y → pushes rows a.position w ≡ 0 → P) → P) [
      | None ↦ λ e _ _. absurd (none-some y e)
      | Some a ↦ λ e z k. let none = not_pushed a.pushed (pushes rows a.position w) z in k a refl none.0 e none.1
    ]

-- a letter without a push leaves the boxes
pub boxes-step : (rows : Rows) (d : Dir) (x : Position) (a : After) → step rows d x ≡ Some a → a.pushed ≡ false → a.position.boxes ≡ x.boxes
boxes-step rows d x a e unpushed = ap (λ (y : After). y.position.boxes) (walk_step rows d x a e unpushed).leads

-- nor does a list without a push
pub boxes-run : (rows : Rows) (w : List Dir) (x y : Position) → run rows x w ≡ Some y → pushes rows x w ≡ 0 → y.boxes ≡ x.boxes
boxes-run rows [] x y e z = ap (λ (p : Position). p.boxes) (sym (same_Some x y e))
boxes-run rows (d ∷ w) x y e z = quiet_step rows d w x y e z (λ a s unpushed r n. boxes-run rows w a.position y r n ∙ boxes-step rows d x a s unpushed)

-- positions of one state have the same boxes
pub boxes-Same : (rows : Rows) (x y : Position) → Same rows x y → y.boxes ≡ x.boxes
boxes-Same rows x y same = boxes-run rows same.0 x y same.1 same.2

pub Same-refl : (rows : Rows) (x : Position) → Same rows x x
Same-refl rows x = ([], refl, refl)

pub Same-trans : (rows : Rows) (x y z : Position) → Same rows x y → Same rows y z → Same rows x z
Same-trans rows x y z p q =
    (p.0 ++ q.0, run-append rows p.0 q.0 x ∙ ap (option_and_then (λ t. run rows t q.0)) p.1 ∙ q.1, pushes-append rows p.0 q.0 x y p.1 ∙ omega (arith, p.2, q.2))

pub Same-step : (rows : Rows) (d : Dir) (x : Position) (a : After) → step rows d x ≡ Some a → a.pushed ≡ false → Same rows x a.position
Same-step rows d x a e unpushed = (
  d ∷ [],
  ap (option_and_then (λ (after : After). Some after.position)) e,
  ap (λ o. option_map_or (λ (after : After). one_if after.pushed + 0) o 0) e
      ∙ ap (λ b. one_if b + 0) unpushed,
)

-- walking back leads back
Same-back : (rows : Rows) (w : List Dir) (x y : Position) → IsStanding rows x → run rows x w ≡ Some y → pushes rows x w ≡ 0 → Same rows y x
Same-back rows [] x y standing e z = subst (λ p. Same rows p x) (same_Some x y e) (Same-refl rows x)
Same-back rows (d ∷ w) x y standing e z = quiet_step rows d w x y e z (λ a s unpushed r n.
    Same-trans rows y a.position x (Same-back rows w a.position y (IsStanding-step rows d x a s) r n)
    (Same-step rows (opposite d) a.position (record { position = x; pushed = false }) (step-back rows d x a standing s unpushed) refl))

pub Same-sym : (rows : Rows) (x y : Position) → IsStanding rows x → Same rows x y → Same rows y x
Same-sym rows x y standing same = Same-back rows same.0 x y standing same.1 same.2

pub IsStanding-Same : (rows : Rows) (x y : Position) → IsStanding rows x → Same rows x y → IsStanding rows y
IsStanding-Same rows x y standing same = IsStanding-run rows same.0 x y standing same.1

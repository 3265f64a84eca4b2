-- Fewer boxes: the letters of a list stay legal where some of the boxes are gone, and what is left comes to where it came. A push of a box that is
-- gone is a walk.
use Rattle.std.proofs.Common.{◌≡◌, refl, sym, ap, ◌∙◌, inl, inr, subst, List, [], ◌∷◌, true, false, true≢false, Some, IsSomeAnd}
use Rattle.std.specs.Option.{option_and_then}
use Rattle.std.proofs.lemmas.Bool.{cases_Bool}
use Rattle.std.proofs.lemmas.Option.{same_Some}
use Rattle.sok_rules.specs.declared.cell.Dir.{Dir}
use Rattle.sok_rules.specs.declared.cell.Spot.{Spot}
use Rattle.sok_rules.specs.Squares.{Rows, next, same_spot}
use Rattle.sok_rules.specs.Play.{After, AllOnGoals, NeverFrom, Position, SolvesFrom, moved, pushes, run, step}
use Rattle.sok_rules.specs.States.{Same}
use Rattle.sok_rules.proofs.Moved.{moved-come, moved-kept, moved-left, moved-other}
use Rattle.sok_rules.proofs.Runs.{solves_on}
use Rattle.sok_rules.proofs.Spots.{same_spot-is}
use Rattle.sok_rules.proofs.Steps.{step-box, step-walk, step_cases, walk_step}
use Rattle.sok_rules.proofs.Walking.{Same-refl, Same-step, Same-trans, quiet_step}

-- the player of another position, and some of its boxes
pub record IsThinner (y x : Position) : Type 0 where
  pub man : y.man ≡ x.man
  pub among : (s : Spot) → y.boxes s ≡ true → x.boxes s ≡ true

-- a free square stays free
thinner-free : (y x : Position) (s : Spot) → IsThinner y x → x.boxes s ≡ false → y.boxes s ≡ false
thinner-free y x s thin free = elim (cases_Bool (y.boxes s)) [
  | inl there ↦ absurd (true≢false (sym (thin.among s there) ∙ free))
  | inr gone ↦ gone
]

-- a box that is there moves alike
moved-among : (y x : Position) (from to : Spot) → IsThinner y x → (s : Spot) → moved y.boxes from to s ≡ true → moved x.boxes from to s ≡ true
moved-among y x from to thin s there = elim (cases_Bool (same_spot s to)) [
  | inl come ↦ moved-come x.boxes from to s come
  | inr elsewhere ↦ elim (cases_Bool (same_spot s from)) [
    | inl left ↦ absurd (true≢false (sym there ∙ moved-left y.boxes from to s elsewhere left))
    | inr stays ↦ moved-kept x.boxes from to s stays (thin.among s (sym (moved-other y.boxes from to s elsewhere stays) ∙ there))
  ]
]

-- a box that is gone does not stand in the way of those that are there
gone-among : (y x : Position) (from to : Spot) → IsThinner y x → y.boxes from ≡ false → (s : Spot) → y.boxes s ≡ true → moved x.boxes from to s ≡ true
gone-among y x from to thin gone s there = elim (cases_Bool (same_spot s from)) [
  | inl here ↦ absurd (true≢false (sym there ∙ ap y.boxes (same_spot-is s from here) ∙ gone))
  | inr apart ↦ moved-kept x.boxes from to s apart (thin.among s there)
]

pub thinner-step : (rows : Rows) (d : Dir) (y x : Position) (a : After) → IsThinner y x → step rows d x ≡ Some a
    → (c : After) × (step rows d y ≡ Some c) × IsThinner c.position a.position
thinner-step rows d y x a thin steps = elim (step_cases rows d x a steps) [
  | inl walk ↦ (
    record { position = record y { man = walk.to }; pushed = false },
    step-walk rows d y walk.to (ap (next d) thin.man ∙ walk.ahead) walk.to_open (thinner-free y x walk.to thin walk.to_free),
    subst (λ (z : After). IsThinner (record y { man = walk.to }) z.position) (sym walk.leads) (record { man = refl; among = thin.among }),
  )
  | inr push ↦ elim (cases_Bool (y.boxes push.from)) [
    | inl there ↦ (
      record { position = record { man = push.from; boxes = moved y.boxes push.from push.to }; pushed = true },
      step-box rows d y push.from push.to false (ap (next d) thin.man ∙ push.ahead) push.from_open there push.beyond push.to_open
          (thinner-free y x push.to thin push.to_free),
      subst (λ (z : After). IsThinner (record { man = push.from; boxes = moved y.boxes push.from push.to }) z.position) (sym push.leads)
          (record { man = refl; among = moved-among y x push.from push.to thin }),
    )
    | inr gone ↦ (
      record { position = record y { man = push.from }; pushed = false },
      step-walk rows d y push.from (ap (next d) thin.man ∙ push.ahead) push.from_open gone,
      subst (λ (z : After). IsThinner (record y { man = push.from }) z.position) (sym push.leads)
          (record { man = refl; among = gone-among y x push.from push.to thin gone }),
    )
  ]
]

-- what solves a position solves it with fewer boxes
pub thinner-solves : (rows : Rows) (w : List Dir) (y x : Position) → IsThinner y x → SolvesFrom rows x w → SolvesFrom rows y w
thinner-solves rows [] y x thin = λ on s there. on s (thin.among s there)
thinner-solves rows (d ∷ w) y x thin = λ solves. solves_on rows d w x solves (λ a steps rest.
    let (c, so, thin_on) = thinner-step rows d y x a thin steps in
    subst (λ o. IsSomeAnd (option_and_then (λ (after : After). run rows after.position w) o) (AllOnGoals rows)) (sym so)
    (thinner-solves rows w c.position a.position thin_on rest))

-- so what is never solved with fewer boxes is never solved
pub NeverFrom-thinner : (rows : Rows) (y x : Position) → IsThinner y x → NeverFrom rows y → NeverFrom rows x
NeverFrom-thinner rows y x thin never w solves = never w (thinner-solves rows w y x thin solves)

-- a walk stays one
pub walk-thinner : (rows : Rows) (w : List Dir) (y x z : Position) → IsThinner y x → run rows x w ≡ Some z → pushes rows x w ≡ 0 → Same rows y (record y { man = z.man })
walk-thinner rows [] y x z thin e quiet = subst (λ man. Same rows y (record y { man = man })) (thin.man ∙ ap (λ (p : Position). p.man) (same_Some x z e))
    (Same-refl rows y)
walk-thinner rows (d ∷ w) y x z thin e quiet = quiet_step rows d w x z e quiet (λ a steps unpushed runs none.
    let walk = walk_step rows d x a steps unpushed in
    let c : After = record { position = record y { man = walk.to }; pushed = false } in
    let so : step rows d y ≡ Some c = step-walk rows d y walk.to (ap (next d) thin.man ∙ walk.ahead) walk.to_open (thinner-free y x walk.to thin walk.to_free) in
    let thin_on : IsThinner c.position a.position = subst (λ (after : After). IsThinner c.position after.position) (sym walk.leads)
    (record { man = refl; among = thin.among }) in
    Same-trans rows y c.position (record y { man = z.man }) (Same-step rows d y c so refl) (walk-thinner rows w c.position a.position z thin_on runs none))

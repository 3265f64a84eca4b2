-- What a letter does, by what stands ahead; and what a legal letter was.
use Rattle.std.proofs.Common.{◌≡◌, ◌⊎◌, refl, sym, ap, ◌∙◌, inl, inr, Bool, true, false, true≢false, not, ◌&&◌, Option, Some, None, if◌then◌else◌, subst}
use Rattle.std.proofs.lemmas.Bool.{cases_Bool, not-true}
use Rattle.std.proofs.lemmas.Option.{same_Some, none-some, option_and_then_some, cond_some}
use Rattle.std.specs.Option.{option_and_then}
use Rattle.sok_rules.specs.declared.cell.Dir.{Dir}
use Rattle.sok_rules.specs.declared.cell.Spot.{Spot}
use Rattle.sok_rules.specs.Squares.{Rows, holds, is_open, next, opposite, same_spot}
use Rattle.sok_rules.specs.Play.{After, Position, enter, moved, push, step}
use Rattle.sok_rules.specs.Scene.{NoneBeside}
use Rattle.sok_rules.proofs.Moved.{moved-from, moved-left, moved-other}
use Rattle.sok_rules.proofs.Spots.{apart_next, next-opposite, same_spot-is}

-- the letter, once it is known what stands ahead
abbrev met : Rows → Dir → Position → Spot → Bool → Bool → Option After
met rows d x q opened boxed =
    if not opened then None else if boxed then option_and_then (push rows x q) (next d q) else Some (record { position = record x { man = q }; pushed = false })

abbrev pushed_to : Position → Spot → Spot → Bool → Option After
pushed_to x q t free = if free then Some (record { position = record { man = q; boxes = moved x.boxes q t }; pushed = true }) else None

nothing_beyond : {A : Type 0} (f : Spot → Option A) (o : Option Spot) → ((t : Spot) → o ≡ Some t → f t ≡ None) → option_and_then f o ≡ None
nothing_beyond f None none = refl
nothing_beyond f (Some t) none = none t refl

-- a wall ahead
pub step-wall : (rows : Rows) (d : Dir) (x : Position) → NoneBeside rows x.man d → step rows d x ≡ None
step-wall rows d x wall = nothing_beyond (enter rows d x) (next d x.man) (λ t there. ap (λ b. met rows d x t b (x.boxes t)) (wall t there))

-- an open square ahead without a box
pub step-walk : (rows : Rows) (d : Dir) (x : Position) (q : Spot) → next d x.man ≡ Some q → holds is_open rows q ≡ true → x.boxes q ≡ false
    → step rows d x ≡ Some (record { position = record x { man = q }; pushed = false })
step-walk rows d x q ahead opened free = ap (option_and_then (enter rows d x)) ahead ∙ (λ i. met rows d x q (opened i) (free i))

-- a box ahead, and a wall beyond it
pub step-box_at_wall : (rows : Rows) (d : Dir) (x : Position) (q : Spot) → next d x.man ≡ Some q → holds is_open rows q ≡ true → x.boxes q ≡ true
    → NoneBeside rows q d → step rows d x ≡ None
step-box_at_wall rows d x q ahead opened boxed wall =
    ap (option_and_then (enter rows d x)) ahead ∙ (λ i. met rows d x q (opened i) (boxed i))
    ∙ nothing_beyond (push rows x q) (next d q) (λ t there. ap (λ b. pushed_to x q t (b && not (x.boxes t))) (wall t there))

-- a box ahead, and an open square beyond it
pub step-box : (rows : Rows) (d : Dir) (x : Position) (q t : Spot) (boxed : Bool) → next d x.man ≡ Some q → holds is_open rows q ≡ true → x.boxes q ≡ true
    → next d q ≡ Some t → holds is_open rows t ≡ true → x.boxes t ≡ boxed
    → step rows d x ≡ (if not boxed then Some (record { position = record { man = q; boxes = moved x.boxes q t }; pushed = true }) else None)
step-box rows d x q t boxed ahead opened box_there beyond far_open far =
    ap (option_and_then (enter rows d x)) ahead ∙ (λ i. met rows d x q (opened i) (box_there i)) ∙ ap (option_and_then (push rows x q)) beyond
    ∙ (λ i. pushed_to x q t (far_open i && not (far i)))

-- a legal letter without a push
pub record IsWalk (rows : Rows) (d : Dir) (x : Position) (a : After) : Type 0 where
  pub to : Spot
  pub ahead : next d x.man ≡ Some to
  pub to_open : holds is_open rows to ≡ true
  pub to_free : x.boxes to ≡ false
  pub leads : a ≡ record { position = record x { man = to }; pushed = false }

-- a legal letter with a push
pub record IsPush (rows : Rows) (d : Dir) (x : Position) (a : After) : Type 0 where
  pub from : Spot
  pub to : Spot
  pub ahead : next d x.man ≡ Some from
  pub from_open : holds is_open rows from ≡ true
  pub box_there : x.boxes from ≡ true
  pub beyond : next d from ≡ Some to
  pub to_open : holds is_open rows to ≡ true
  pub to_free : x.boxes to ≡ false
  pub leads : a ≡ record { position = record { man = from; boxes = moved x.boxes from to }; pushed = true }

-- a conjunction and its parts
pub both : (p q : Bool) → (p && q) ≡ true → (p ≡ true) × (q ≡ true)
both true true e = (refl, refl)
both true false e = absurd (true≢false (sym e))
both false q e = absurd (true≢false (sym e))

-- a legal letter walks or pushes
pub step_cases : (rows : Rows) (d : Dir) (x : Position) (a : After) → step rows d x ≡ Some a → IsWalk rows d x a ⊎ IsPush rows d x a
step_cases rows d x a e = option_and_then_some (enter rows d x) (next d x.man) a e (λ q ahead entered. elim (cases_Bool (holds is_open rows q)) [
  | inr wall ↦ absurd (none-some a (ap (λ b. met rows d x q b (x.boxes q)) (sym wall) ∙ entered))
  | inl opened ↦
      let chosen = ap (λ b. met rows d x q b (x.boxes q)) (sym opened) ∙ entered in
      elim (cases_Bool (x.boxes q)) [
        | inr free ↦ inl (record {
          to = q;
          ahead = ahead;
          to_open = opened;
          to_free = free;
          leads = sym (same_Some _ a (ap (met rows d x q true) (sym free) ∙ chosen));
        })
        | inl boxed ↦ option_and_then_some (push rows x q) (next d q) a (ap (met rows d x q true) (sym boxed) ∙ chosen) (λ t beyond pushed.
            let passed = cond_some (holds is_open rows t && not (x.boxes t)) _ a pushed in
            let tests = both (holds is_open rows t) (not (x.boxes t)) passed.0 in
            inr (record {
              from = q;
              to = t;
              ahead = ahead;
              from_open = opened;
              box_there = boxed;
              beyond = beyond;
              to_open = tests.0;
              to_free = not-true (x.boxes t) tests.1;
              leads = sym passed.1;
            }))
      ]
])

-- a legal letter that does not push
pub walk_step : (rows : Rows) (d : Dir) (x : Position) (a : After) → step rows d x ≡ Some a → a.pushed ≡ false → IsWalk rows d x a
walk_step rows d x a e unpushed = elim (step_cases rows d x a e) [
  | inl walk ↦ walk
  | inr push ↦ absurd (true≢false (sym (ap (λ (y : After). y.pushed) push.leads) ∙ unpushed))
]

-- a legal letter that pushes
pub push_step : (rows : Rows) (d : Dir) (x : Position) (a : After) → step rows d x ≡ Some a → a.pushed ≡ true → IsPush rows d x a
push_step rows d x a e pushed = elim (step_cases rows d x a e) [
  | inl walk ↦ absurd (true≢false (sym pushed ∙ ap (λ (y : After). y.pushed) walk.leads))
  | inr push ↦ push
]

-- the player stands where he may: on an open square without a box
pub record IsStanding (rows : Rows) (x : Position) : Type 0 where
  pub on_open : holds is_open rows x.man ≡ true
  pub no_box : x.boxes x.man ≡ false

-- after any letter the player stands where he may
pub IsStanding-step : (rows : Rows) (d : Dir) (x : Position) (a : After) → step rows d x ≡ Some a → IsStanding rows a.position
IsStanding-step rows d x a e = elim (step_cases rows d x a e) [
  | inl walk ↦ subst (λ (y : After). IsStanding rows y.position) (sym walk.leads) (record { on_open = walk.to_open; no_box = walk.to_free })
  | inr push ↦ subst (λ (y : After). IsStanding rows y.position) (sym push.leads)
      (record { on_open = push.from_open; no_box = moved-from x.boxes push.from push.to (apart_next d push.from push.to push.beyond) })
]

-- a letter without a push is undone by the opposite letter
pub step-back : (rows : Rows) (d : Dir) (x : Position) (a : After) → IsStanding rows x → step rows d x ≡ Some a → a.pushed ≡ false
    → step rows (opposite d) a.position ≡ Some (record { position = x; pushed = false })
step-back rows d x a standing e unpushed =
    let walk = walk_step rows d x a e unpushed in
    ap (λ (y : After). step rows (opposite d) y.position) walk.leads
    ∙ step-walk rows (opposite d) (record x { man = walk.to }) x.man (next-opposite d x.man walk.to walk.ahead) standing.on_open standing.no_box

-- boxes stand on open squares
abbrev pub HasOpenBoxes : Rows → Position → Type 0
HasOpenBoxes rows x = (s : Spot) → x.boxes s ≡ true → holds is_open rows s ≡ true

HasOpenBoxes-moved : (rows : Rows) (x : Position) (from to : Spot) → HasOpenBoxes rows x → holds is_open rows to ≡ true
    → (s : Spot) → moved x.boxes from to s ≡ true → holds is_open rows s ≡ true
HasOpenBoxes-moved rows x from to opened to_open s boxed = elim (cases_Bool (same_spot s to)) [
  | inl there ↦ ap (holds is_open rows) (same_spot-is s to there) ∙ to_open
  | inr elsewhere ↦ elim (cases_Bool (same_spot s from)) [
    | inl left ↦ absurd (true≢false (sym boxed ∙ moved-left x.boxes from to s elsewhere left))
    | inr kept ↦ opened s (sym (moved-other x.boxes from to s elsewhere kept) ∙ boxed)
  ]
]

pub HasOpenBoxes-step : (rows : Rows) (d : Dir) (x : Position) (a : After) → HasOpenBoxes rows x → step rows d x ≡ Some a → HasOpenBoxes rows a.position
HasOpenBoxes-step rows d x a opened e = elim (step_cases rows d x a e) [
  | inl walk ↦ subst (λ (y : After). HasOpenBoxes rows y.position) (sym walk.leads) opened
  | inr push ↦ subst (λ (y : After). HasOpenBoxes rows y.position) (sym push.leads) (HasOpenBoxes-moved rows x push.from push.to opened push.to_open)
]

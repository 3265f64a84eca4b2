-- Letters keep the man in the area, and the boxes outside it.
use Rattle.std.proofs.Common.{◌≡◌, inl, inr, refl, sym, ◌∙◌, subst, List, [], ◌∷◌, false, Some}
use Rattle.std.proofs.lemmas.Bool.{cases_Bool}
use Rattle.std.proofs.lemmas.Option.{same_Some, option_and_then_some}
use Rattle.sok_rules.specs.declared.cell.Dir.{Dir}
use Rattle.sok_rules.specs.declared.cell.Spot.{Spot}
use Rattle.sok_rules.specs.Squares.{Rows, same_spot}
use Rattle.sok_rules.specs.Play.{Position, After, start, step, run}
use Rattle.sok_rules.proofs.Moved.{moved-other}
use Rattle.sok_rules.proofs.Runs.{boxes-start}
use Rattle.sok_rules.proofs.Spots.{same_spot-is}
use Rattle.sok_rules.proofs.Steps.{step_cases}
use Rattle.sok_board.specs.Area.{BoardView, InArea, IsArea}
use Rattle.sok_board.specs.Confined.{IsConfined, ConfinesPlay, KeepsDecorations}
use Rattle.sok_board.proofs.Accepted.{decoration-outside}
use Rattle.sok_board.proofs.AreaLaws.{InArea-next, InArea-man}

apart_outside : (rows : Rows) (s t : Spot) → (InArea rows s → ⊥) → InArea rows t → same_spot s t ≡ false
apart_outside rows s t out inside = elim (cases_Bool (same_spot s t)) [
  | inl same ↦ absurd (out (subst (InArea rows) (sym (same_spot-is s t same)) inside))
  | inr apart ↦ apart
]

confined-step : (rows : Rows) (d : Dir) (x : Position) (a : After) → InArea rows x.man → step rows d x ≡ Some a → IsConfined rows x a.position
confined-step rows d x a inside e = elim (step_cases rows d x a e) [
  | inr push ↦
      let from = InArea-next rows d x.man push.from inside push.ahead push.from_open in
      let to = InArea-next rows d push.from push.to from push.beyond push.to_open in
      subst (λ (after : After). IsConfined rows x after.position) (sym push.leads) (record {
        man = from;
        boxes = λ s out. moved-other x.boxes push.from push.to s (apart_outside rows s push.to out to) (apart_outside rows s push.from out from);
      })
  | inl walk ↦ subst (λ (after : After). IsConfined rows x after.position) (sym walk.leads) (record {
    man = InArea-next rows d x.man walk.to inside walk.ahead walk.to_open;
    boxes = λ s out. refl;
  })
]

confined-run : (rows : Rows) (w : List Dir) (x y : Position) → InArea rows x.man → run rows x w ≡ Some y → IsConfined rows x y
confined-run rows [] x y inside e = subst (IsConfined rows x) (same_Some x y e) (record { man = inside; boxes = λ s out. refl })
confined-run rows (d ∷ w) x y inside e = option_and_then_some (λ (after : After). run rows after.position w) (step rows d x) y e (λ a stepped rest.
    let one = confined-step rows d x a inside stepped in
    let more = confined-run rows w a.position y one.man rest in
    record { man = more.man; boxes = λ s out. more.boxes s out ∙ one.boxes s out })

pub confines-play : (rows : Rows) → ConfinesPlay rows
confines-play rows x y w inside e = confined-run rows w x y inside e

pub keeps-decorations : (b : BoardView) → IsArea b.rows b.area → KeepsDecorations b
keeps-decorations b area y w e s decoration =
    let (box, out) = decoration-outside b area s decoration in
    (confined-run b.rows w (start b.rows) y (InArea-man b.rows) e).boxes s out ∙ boxes-start b.rows s ∙ box

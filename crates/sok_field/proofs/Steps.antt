-- One step, by rows and columns.
use Rattle.std.proofs.Common.{◌≡◌, ◌≤◌, ◌+◌, Some, sym, ap, arith}
use Rattle.std.proofs.lemmas.Option.{same_Some}
use Rattle.sok_rules.specs.declared.cell.Dir.{Dir}
use Rattle.sok_rules.specs.declared.cell.Dir.TheVariants.{Left, Up, Right, Down}
use Rattle.sok_rules.specs.declared.cell.Spot.{Spot}
use Rattle.sok_rules.specs.Squares.{next}
use Rattle.sok_rules.proofs.Spots.{next-opposite}
use Rattle.sok_field.specs.Halves.{beyond, within}
use Rattle.sok_field.proofs.OneSquare.{same_place}

abbrev pub IsStep : Dir → Spot → Spot → Type 0
IsStep Left s t = (t.row ≡ s.row) × (s.col ≡ t.col + 1)
IsStep Right s t = (t.row ≡ s.row) × (t.col ≡ s.col + 1)
IsStep Up s t = (s.row ≡ t.row + 1) × (t.col ≡ s.col)
IsStep Down s t = (t.row ≡ s.row + 1) × (t.col ≡ s.col)

on_right : (s t : Spot) → next Right s ≡ Some t → IsStep Right s t
on_right s t e =
    let same = same_Some (record s { col = s.col + 1 }) t e in
    (sym (ap (λ (u : Spot). u.row) same), sym (ap (λ (u : Spot). u.col) same))

below : (s t : Spot) → next Down s ≡ Some t → IsStep Down s t
below s t e =
    let same = same_Some (record s { row = s.row + 1 }) t e in
    (sym (ap (λ (u : Spot). u.row) same), sym (ap (λ (u : Spot). u.col) same))

pub step-is : (d : Dir) (s t : Spot) → next d s ≡ Some t → IsStep d s t
step-is Right s t e = on_right s t e
step-is Down s t e = below s t e
step-is Left s t e = let (row, col) = on_right t s (next-opposite Left s t e) in (sym row, col)
step-is Up s t e = let (row, col) = below t s (next-opposite Up s t e) in (row, sym col)

to_right : (s t : Spot) → IsStep Right s t → next Right s ≡ Some t
to_right s t (row, col) = ap Some (same_place (record s { col = s.col + 1 }) t (sym row) (sym col))

to_below : (s t : Spot) → IsStep Down s t → next Down s ≡ Some t
to_below s t (row, col) = ap Some (same_place (record s { row = s.row + 1 }) t (sym row) (sym col))

pub is-step : (d : Dir) (s t : Spot) → IsStep d s t → next d s ≡ Some t
is-step Right s t step = to_right s t step
is-step Down s t step = to_below s t step
is-step Left s t (row, col) = next-opposite Right t s (to_right t s (sym row, col))
is-step Up s t (row, col) = next-opposite Down t s (to_below t s (row, sym col))

-- the same step, 64 columns on or back
shifted : (d : Dir) (s t : Spot) → IsStep d s t → IsStep d (beyond s) (beyond t)
shifted Left s t (row, col) = (row, omega (arith, col))
shifted Right s t (row, col) = (row, omega (arith, col))
shifted Up s t (row, col) = (row, omega (arith, col))
shifted Down s t (row, col) = (row, omega (arith, col))

shifted_back : (d : Dir) (s t : Spot) → 64 ≤ s.col → 64 ≤ t.col → IsStep d s t → IsStep d (within s) (within t)
shifted_back Left s t past there (row, col) = (row, omega (arith, col, past, there))
shifted_back Right s t past there (row, col) = (row, omega (arith, col, past, there))
shifted_back Up s t past there (row, col) = (row, omega (arith, col, past, there))
shifted_back Down s t past there (row, col) = (row, omega (arith, col, past, there))

pub next-beyond : (d : Dir) (s t : Spot) → next d s ≡ Some t → next d (beyond s) ≡ Some (beyond t)
next-beyond d s t e = is-step d (beyond s) (beyond t) (shifted d s t (step-is d s t e))

pub next-within : (d : Dir) (s t : Spot) → 64 ≤ s.col → 64 ≤ t.col → next d s ≡ Some t → next d (within s) ≡ Some (within t)
next-within d s t past there e = is-step d (within s) (within t) (shifted_back d s t past there (step-is d s t e))

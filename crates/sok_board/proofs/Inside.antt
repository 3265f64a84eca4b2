-- Squares with a cell, and where the squares of an area lie.
use Rattle.std.proofs.Common.{◌≡◌, refl, sym, ap, ◌∙◌, List, [], ◌∷◌, Bool, true, false, Option, Some, None, arith, length, slice_get, if◌then◌else◌}
use Rattle.std.proofs.lemmas.Option.{none-some, same_Some, option_and_then_some, slice_get_within, get_or_from_slice_get}
use Rattle.sok_rules.specs.declared.cell.Cell.{Cell}
use Rattle.sok_rules.specs.declared.cell.Dir.{Dir}
use Rattle.sok_rules.specs.declared.cell.Spot.{Spot}
use Rattle.sok_rules.specs.Squares.{Rows, cell_at, holds, is_open, is_man, next}
use Rattle.sok_rules.specs.Levels.{IsProper}
use Rattle.sok_rules.specs.Play.{start}
use Rattle.sok_rules.proofs.Grid.{cell-from_holds}
use Rattle.sok_rules.proofs.Man.{holds-man}
use Rattle.sok_rules.proofs.Scenes.{man_stands}
use Rattle.sok_board.specs.Area.{InArea, stroll}
use Rattle.sok_board.specs.Tables.{HasPlace, HasPlaceIn}

-- a level has cells in its rows and in 128 columns only
pub HasPlaceIn-cell : (rows : Rows) (s : Spot) (cell : Cell) → IsProper rows → cell_at rows s ≡ Some cell → HasPlaceIn (length rows) s
HasPlaceIn-cell rows s cell proper at = option_and_then_some (λ row. slice_get row s.col) (slice_get rows s.row) cell at (λ row found here.
    let inside = slice_get_within rows s.row row found in
    let short = proper.few_columns s.row [] inside in
    let same = ap length (get_or_from_slice_get rows s.row row [] found) in
    let beside = slice_get_within row s.col cell here in
    record { row = inside; col = omega (arith, short, same, beside) })

pub HasPlaceIn-holds : (test : Cell → Bool) (rows : Rows) (s : Spot) → IsProper rows → holds test rows s ≡ true → HasPlaceIn (length rows) s
HasPlaceIn-holds test rows s proper e = let (cell, at, _) = cell-from_holds test rows s e in HasPlaceIn-cell rows s cell proper at

-- so in 128 rows
pub HasPlace-few : (rows : Rows) (s : Spot) → IsProper rows → HasPlaceIn (length rows) s → HasPlace s
HasPlace-few rows s proper place =
    let few = proper.few_rows in
    let inside = place.row in
    record { row = omega (arith, inside, few); col = place.col }

pub HasPlace-holds : (test : Cell → Bool) (rows : Rows) (s : Spot) → IsProper rows → holds test rows s ≡ true → HasPlace s
HasPlace-holds test rows s proper e = HasPlace-few rows s proper (HasPlaceIn-holds test rows s proper e)

pub if_some : {X : Type 0} (b : Bool) (o : Option X) (x : X) → (if b then o else None) ≡ Some x → (b ≡ true) × (o ≡ Some x)
if_some true o x e = (refl, e)
if_some false o x e = absurd (none-some x e)

-- a walk from an open square ends on one
stroll-open : (rows : Rows) (w : List Dir) (s t : Spot) → holds is_open rows s ≡ true → stroll rows s w ≡ Some t → holds is_open rows t ≡ true
stroll-open rows [] s t opened leads = ap (holds is_open rows) (sym (same_Some s t leads)) ∙ opened
stroll-open rows (d ∷ w) s t opened leads = option_and_then_some (λ q. if holds is_open rows q then stroll rows q w else None) (next d s) t leads
    (λ q _ on. let (clear, rest) = if_some (holds is_open rows q) (stroll rows q w) t on in stroll-open rows w q t clear rest)

-- no square of an area is a wall
pub InArea-open : (rows : Rows) → IsProper rows → (s : Spot) → InArea rows s → holds is_open rows s ≡ true
InArea-open rows proper s (w, leads) = stroll-open rows w (start rows).man s (man_stands rows (start rows).man (holds-man rows proper)).0 leads

pub HasPlaceIn-InArea : (rows : Rows) → IsProper rows → (s : Spot) → InArea rows s → HasPlaceIn (length rows) s
HasPlaceIn-InArea rows proper s inside = HasPlaceIn-holds is_open rows s proper (InArea-open rows proper s inside)

pub HasPlace-InArea : (rows : Rows) → IsProper rows → (s : Spot) → InArea rows s → HasPlace s
HasPlace-InArea rows proper s inside = HasPlace-few rows s proper (HasPlaceIn-InArea rows proper s inside)

pub HasPlaceIn-man : (rows : Rows) → IsProper rows → HasPlaceIn (length rows) (start rows).man
HasPlaceIn-man rows proper = HasPlaceIn-holds is_man rows (start rows).man proper (holds-man rows proper)

pub HasPlace-man : (rows : Rows) → IsProper rows → HasPlace (start rows).man
HasPlace-man rows proper = HasPlace-few rows (start rows).man proper (HasPlaceIn-man rows proper)

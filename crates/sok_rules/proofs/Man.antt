-- The one player of a proper level, where he is found.
use Rattle.std.proofs.Common.{Vec, ℕ, ◌≡◌, ◌<◌, refl, sym, ap, ◌∙◌, inl, inr, List, [], length, get_or, Bool, true, false}
use Rattle.std.proofs.Common.{true≢false, Some, None, if◌then◌else◌, position, find, unwrap_or, count_by, sum_by, ◌*◌, ◌≤◌, arith}
use Rattle.std.proofs.Common.{subst}
use Rattle.std.proofs.lemmas.Bool.{cases_Bool}
use Rattle.std.proofs.lemmas.List.{length-map}
use Rattle.std.proofs.lemmas.List.Folds.{list_any_at, list_any_none}
use Rattle.std.proofs.lemmas.List.Quantifiers.{position-Some}
use Rattle.std.specs.List.{list_any}
use Rattle.sok_rules.specs.Limits.{size_limit}
use Rattle.sok_rules.specs.declared.cell.Cell.{Cell}
use Rattle.sok_rules.specs.declared.cell.Cell.TheVariants.{Wall}
use Rattle.sok_rules.specs.declared.cell.Spot.{Spot}
use Rattle.sok_rules.specs.Squares.{Rows, holds, is_astray, is_man, places, same_spot}
use Rattle.sok_rules.specs.Play.{start}
use Rattle.sok_rules.specs.Levels.{cells_of, count_in, IsProper}
use Rattle.sok_rules.specs.Scene.{IsScene, with_cell}
use Rattle.sok_rules.proofs.Grid.{IsWithin, IsWithin-from_holds, holds-within, holds-with_cell, count_in-holds, count_in-none, count_in-with_cell, row-cells_of}
use Rattle.sok_rules.proofs.Proper.{position-none, count_by-few}
use Rattle.sok_rules.proofs.Rows.{list_any-cells_of, sum_by-cells_of}
use Rattle.sok_rules.proofs.Places.{find-list_any, list_any-places}
use Rattle.sok_rules.proofs.Scenes.{man_stands}
use Rattle.sok_rules.proofs.Spots.{same_spot-is}
use Rattle.sok_rules.proofs.Steps.{IsStanding}

-- what is counted once stands nowhere else
pub only_one : (test : Cell → Bool) (rows : Rows) (one : Spot) → test Wall ≡ false → count_in test rows ≡ 1 → holds test rows one ≡ true → (s : Spot)
    → holds test rows s ≡ same_spot one s
only_one test rows one wall once there s = elim (cases_Bool (same_spot one s)) [
  | inl same ↦ ap (holds test rows) (sym (same_spot-is one s same)) ∙ there ∙ sym same
  | inr apart ↦ elim (cases_Bool (holds test rows s)) [
    | inr none ↦ none ∙ sym apart
    | inl second ↦
        let within = IsWithin-from_holds test rows one there in
        let counted = count_in-with_cell test rows one Wall within in
        let taken = ap {B = ℕ} (λ b. if b then 1 else 0) there in
        let given = ap {B = ℕ} (λ b. if b then 1 else 0) wall in
        let left : holds test (with_cell rows one Wall) s ≡ true = holds-with_cell test rows one s Wall within ∙ (λ i. if apart i then wall i else second i) in
        absurd (omega (arith, counted, taken, given, once, count_in-holds test (with_cell rows one Wall) s left))
  ]
]

-- what is counted stands in some row
pub list_any-counted : (test : Cell → Bool) (rows : Rows) → 0 < count_in test rows → list_any (list_any test) rows ≡ true
list_any-counted test rows some = elim (cases_Bool (list_any (list_any test) rows)) [
  | inl found ↦ found
  | inr none ↦ absurd (omega (
    arith,
    some,
    count_in-none test rows (λ s. elim (cases_Bool (holds test rows s)) [
      | inr fails ↦ fails
      | inl passes ↦
          let within = IsWithin-from_holds test rows s passes in
          let in_row = list_any_at test (get_or rows s.row []) s.col Wall within.col (sym (holds-within test rows s Wall within) ∙ passes) in
          absurd (true≢false (sym (list_any_at (list_any test) rows s.row [] within.row in_row) ∙ none))
    ]),
  ))
]

-- no row with the player is found only where there is none
pub row_found : {A : Type 0} (test : Cell → Bool) (rows : List (Vec Cell A)) → 0 < count_in test (cells_of rows)
    → position (λ row. list_any test row.items) rows ≡ None → ⊥
row_found test rows some none =
    true≢false (sym (list_any-counted test (cells_of rows) some) ∙ list_any-cells_of (list_any test) rows
    ∙ list_any_none (λ row. list_any test row.items) rows (position-none (λ row. list_any test row.items) rows none))

-- nor a column of a row with him
pub col_found : (test : Cell → Bool) (row : List Cell) → list_any test row ≡ true → position test row ≡ None → ⊥
col_found test row some none = true≢false (sym some ∙ list_any_none test row (position-none test row none))

-- where he is found he is
pub holds-found : {A : Type 0} (test : Cell → Bool) (rows : List (Vec Cell A)) (row : Vec Cell A) (r c : ℕ) → r < length rows → row ≡ get_or rows r row
    → position test row.items ≡ Some c
    → (c < length row.items) × (holds test (cells_of rows) (record { row = r; col = c }) ≡ true)
holds-found test rows row r c within there found =
    let place = position-Some test row.items c Wall found in
    let cells = row-cells_of rows r row within there in
    let inside : IsWithin (cells_of rows) (record { row = r; col = c }) = record {
      row = omega (arith, within, length-map rows (λ (v : Vec Cell _). v.items));
      col = subst (λ (line : List Cell). c < length line) (sym cells) place.0;
    } in (
      place.0,
      holds-within test (cells_of rows) (record { row = r; col = c }) Wall inside ∙ ap (λ (line : List Cell). test (get_or line c Wall)) cells
          ∙ place.1,
    )

-- and in a level that is near
pub col_near : {A : Type 0} (test : Cell → Bool) (rows : List (Vec Cell A)) (row : Vec Cell A) (r c : ℕ) → IsProper (cells_of rows) → r < length rows
    → row ≡ get_or rows r row
    → position test row.items ≡ Some c → c < size_limit
col_near test rows row r c proper within there found =
    let place = holds-found test rows row r c within there found in
    let short = proper.few_columns r [] (omega (arith, within, length-map rows (λ (v : Vec Cell _). v.items))) in
    omega (arith, place.0, short, ap length (row-cells_of rows r row within there))

-- the cells of a level that are counted are few
pub few_counted : {A : Type 0} (test : Cell → Bool) (rows : List (Vec Cell A)) → IsProper (cells_of rows)
    → sum_by (λ row. count_by test row.items) rows ≤ size_limit * size_limit
few_counted test rows proper = omega (
  arith,
  sum_by-cells_of (count_by test) rows,
  count_by-few (λ row. row) test
      (cells_of rows) proper.few_rows proper.few_columns,
)

-- a level is a scene
pub IsScene-from_IsProper : (rows : Rows) (man : Spot) (astray : ℕ) → IsProper rows → holds is_man rows man ≡ true → astray ≡ count_in is_astray rows
    → IsScene rows man astray
IsScene-from_IsProper rows man astray proper there counted = record {
  few_rows = proper.few_rows;
  few_columns = proper.few_columns;
  man_is = only_one is_man rows man refl proper.one_man there;
  astray_are = counted;
}

-- the player of a level, who is met first in reading order
found_man : (rows : Rows) → 0 < count_in is_man rows → (s : Spot) × (find (holds is_man rows) (places rows) ≡ Some s) × (holds is_man rows s ≡ true)
found_man rows some = elim (cases_Bool (list_any (holds is_man rows) (places rows))) [
  | inl found ↦ find-list_any (holds is_man rows) (places rows) found
  | inr none ↦ absurd (omega (
    arith,
    some,
    count_in-none is_man rows (λ s. elim (cases_Bool (holds is_man rows s)) [
      | inr fails ↦ fails
      | inl seen ↦ absurd (true≢false (sym (list_any-places (holds is_man rows) rows s (IsWithin-from_holds is_man rows s seen) seen) ∙ none))
    ]),
  ))
]

pub find-man : (rows : Rows) → IsProper rows → find (holds is_man rows) (places rows) ≡ Some (start rows).man
unfolding start
find-man rows proper =
    let found = found_man rows (omega (arith, proper.one_man)) in
    found.1 ∙ sym (ap (λ o. Some (unwrap_or o (record { row = 0; col = 0 }))) found.1)

-- the start of a level shows its player
pub holds-man : (rows : Rows) → IsProper rows → holds is_man rows (start rows).man ≡ true
unfolding start
holds-man rows proper =
    let found = found_man rows (omega (arith, proper.one_man)) in
    ap (λ o. holds is_man rows (unwrap_or o (record { row = 0; col = 0 }))) found.1 ∙ found.2

-- where he may stand
pub IsStanding-start : (rows : Rows) → IsProper rows → IsStanding rows (start rows)
unfolding start
IsStanding-start rows proper =
    let stands = man_stands rows (start rows).man (holds-man rows proper) in
    record { on_open = stands.0; no_box = stands.1 }

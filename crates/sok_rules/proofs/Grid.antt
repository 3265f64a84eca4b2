-- Rows as a grid: one cell replaced, and what tests and counts then say.
use Rattle.std.proofs.Common.{Vec, ℕ, ◌≡◌, ◌≢◌, ◌<◌, ◌≤◌, ◌+◌, ◌*◌, ◌==◌, ◌&&◌, refl, sym, ap, ◌∙◌, inl, inr, List, [], length}
use Rattle.std.proofs.Common.{get_or, set, Bool, true, false, true≢false, not, Option, Some, None, if◌then◌else◌, slice_get, map}
use Rattle.std.proofs.Common.{count_by, arith, length-set, subst}
use Rattle.std.proofs.lemmas.Bool.{cases_Bool, cases_lt}
use Rattle.std.proofs.lemmas.Bool.Decides.{nat_tests}
use Rattle.std.proofs.lemmas.List.{get_or-set_same, get_or-set_other, get_or_default, length-map, map-set}
use Rattle.std.proofs.Math.ListN.{get_or-map}
use Rattle.std.proofs.lemmas.Option.{slice_get-get_or, slice_get_past, slice_get_within, none-some}
use Rattle.std.proofs.lemmas.List.Sums.{sum_by-set, get_or-le-sum_by, sum_by-le}
use Rattle.std.proofs.Math.Seq.{map-set_same}
use Rattle.std.specs.Option.{option_and_then, option_map_or}
use Rattle.sok_rules.specs.declared.cell.Cell.{Cell}
use Rattle.sok_rules.specs.declared.cell.Cell.TheVariants.{Wall, Floor, Goal, BoxOff, BoxOn, ManOff, ManOn}
use Rattle.sok_rules.specs.declared.cell.Spot.{Spot}
use Rattle.sok_rules.specs.Squares.{Rows, cell_at, holds, is_open, is_wall, same_spot}
use Rattle.sok_rules.specs.Levels.{cells_of, count_in}
use Rattle.sok_rules.specs.Scene.{with_cell}

-- a row has the place
pub record IsWithin (rows : Rows) (s : Spot) : Type 0 where
  pub row : s.row < length rows
  pub col : s.col < length (get_or rows s.row [])

slice_get-set_other : {X : Type 0} (xs : List X) (i k : ℕ) (y : X) → k ≢ i → slice_get (set xs i y) k ≡ slice_get xs k
slice_get-set_other xs i k y apart = elim (cases_lt k (length xs)) [
  | inl inside ↦
      slice_get-get_or (set xs i y) k y (omega (arith, length-set xs i y, inside)) ∙ ap Some (get_or-set_other xs i k y y apart)
      ∙ sym (slice_get-get_or xs k y inside)
  | inr past ↦ slice_get_past (set xs i y) k (omega (arith, length-set xs i y, past)) ∙ sym (slice_get_past xs k past)
]

pub IsWithin-from_cell_at : (rows : Rows) (s : Spot) (cell : Cell) → cell_at rows s ≡ Some cell → IsWithin rows s
IsWithin-from_cell_at rows s cell there = elim (cases_lt s.row (length rows)) [
  | inr past ↦ absurd (none-some cell (sym (ap (option_and_then (λ row. slice_get row s.col)) (slice_get_past rows s.row past)) ∙ there))
  | inl within ↦
      let in_row : slice_get (get_or rows s.row []) s.col ≡ Some cell =
      sym (ap (option_and_then (λ row. slice_get row s.col)) (slice_get-get_or rows s.row [] within)) ∙ there in
      record { row = within; col = slice_get_within (get_or rows s.row []) s.col cell in_row }
]

slice_get-set : {X : Type 0} (xs : List X) (i k : ℕ) (y : X) → i < length xs → slice_get (set xs i y) k ≡ (if i == k then Some y else slice_get xs k)
slice_get-set xs i k y within = elim (cases_Bool (i == k)) [
  | inl same ↦
      let at : i ≡ k = grind (arith, nat_tests, same) in
      ap (slice_get (set xs i y)) (sym at) ∙ slice_get-get_or (set xs i y) i y (omega (arith, length-set xs i y, within))
      ∙ ap Some (get_or-set_same xs i y y within)
      ∙ ap (λ b. if b then Some y else slice_get xs k) (sym same)
  | inr other ↦
      let apart : k ≢ i = λ e. true≢false (sym (grind (arith, nat_tests, e)) ∙ other) in
      slice_get-set_other xs i k y apart ∙ ap (λ b. if b then Some y else slice_get xs k) (sym other)
]

pub cell_at-within : (rows : Rows) (s : Spot) (other : Cell) → IsWithin rows s → cell_at rows s ≡ Some (get_or (get_or rows s.row []) s.col other)
cell_at-within rows s other within =
    ap (option_and_then (λ row. slice_get row s.col)) (slice_get-get_or rows s.row [] within.row)
    ∙ slice_get-get_or (get_or rows s.row []) s.col other within.col

pub cell_at-with_cell : (rows : Rows) (t s : Spot) (cell : Cell) → IsWithin rows t
    → cell_at (with_cell rows t cell) s ≡ (if same_spot t s then Some cell else cell_at rows s)
unfolding with_cell
cell_at-with_cell rows t s cell within =
    let row = get_or rows t.row [] in
    let in_row : List Cell → Option Cell = λ r. slice_get r s.col in
    ap (option_and_then in_row) (slice_get-set rows t.row s.row (set row t.col cell) within.row) ∙ elim (cases_Bool (t.row == s.row)) [
      | inl same ↦
          let at : t.row ≡ s.row = grind (arith, nat_tests, same) in
          let here : cell_at rows s ≡ slice_get row s.col = ap (λ r. option_and_then in_row (slice_get rows r)) (sym at)
          ∙ ap (option_and_then in_row) (slice_get-get_or rows t.row [] within.row) in
          ap (λ b. option_and_then in_row (if b then Some (set row t.col cell) else slice_get rows s.row)) same ∙ slice_get-set row t.col s.col cell within.col
          ∙ ap (λ o. if t.col == s.col then Some cell else o) (sym here) ∙ ap (λ b. if b && (t.col == s.col) then Some cell else cell_at rows s) (sym same)
      | inr other ↦
          ap (λ b. option_and_then in_row (if b then Some (set row t.col cell) else slice_get rows s.row)) other
          ∙ ap (λ b. if b && (t.col == s.col) then Some cell else cell_at rows s) (sym other)
    ]

map_or_choice : (test : Cell → Bool) (b : Bool) (cell : Cell) (o : Option Cell)
    → option_map_or test (if b then Some cell else o) false ≡ (if b then test cell else option_map_or test o false)
map_or_choice test true cell o = refl
map_or_choice test false cell o = refl

pub holds-with_cell : (test : Cell → Bool) (rows : Rows) (t s : Spot) (cell : Cell) → IsWithin rows t
    → holds test (with_cell rows t cell) s ≡ (if same_spot t s then test cell else holds test rows s)
unfolding holds
holds-with_cell test rows t s cell within =
    ap (λ o. option_map_or test o false) (cell_at-with_cell rows t s cell within) ∙ map_or_choice test (same_spot t s) cell (cell_at rows s)

pub holds-some : (test : Cell → Bool) (rows : Rows) (s : Spot) (cell : Cell) → cell_at rows s ≡ Some cell → holds test rows s ≡ test cell
unfolding holds
holds-some test rows s cell there = ap (λ o. option_map_or test o false) there

pub holds-none : (test : Cell → Bool) (rows : Rows) (s : Spot) → cell_at rows s ≡ None → holds test rows s ≡ false
unfolding holds
holds-none test rows s none = ap (λ o. option_map_or test o false) none

pub is_open-is : (cell : Cell) → is_open cell ≡ not (is_wall cell)
is_open-is Wall = refl
is_open-is Floor = refl
is_open-is Goal = refl
is_open-is BoxOff = refl
is_open-is BoxOn = refl
is_open-is ManOff = refl
is_open-is ManOn = refl

open_wall : (cell : Cell) → is_wall cell ≡ true → is_open cell ≡ false
open_wall cell wall = is_open-is cell ∙ ap not wall

-- no square is a wall and open
pub wall_or_open : (rows : Rows) (s : Spot) → holds is_wall rows s ≡ true → holds is_open rows s ≡ true → ⊥
unfolding holds
wall_or_open rows s = elim (cell_at rows s) as (λ o. option_map_or is_wall o false ≡ true → option_map_or is_open o false ≡ true → ⊥) [
  | None ↦ λ wall _. true≢false (sym wall)
  | Some cell ↦ λ wall opened. true≢false (sym opened ∙ open_wall cell wall)
]

-- what holds at a place holds of a cell that stands there
pub cell-from_holds : (test : Cell → Bool) (rows : Rows) (s : Spot) → holds test rows s ≡ true
    → (cell : Cell) × (cell_at rows s ≡ Some cell) × (test cell ≡ true)
unfolding holds
cell-from_holds test rows s = elim (cell_at rows s) as (λ o. option_map_or test o false ≡ true → (cell : Cell) × (o ≡ Some cell) × (test cell ≡ true)) [
  | None ↦ λ e. absurd (true≢false (sym e))
  | Some cell ↦ λ e. (cell, refl, e)
]

pub IsWithin-from_holds : (test : Cell → Bool) (rows : Rows) (s : Spot) → holds test rows s ≡ true → IsWithin rows s
IsWithin-from_holds test rows s e = let found = cell-from_holds test rows s e in IsWithin-from_cell_at rows s found.0 found.1

pub holds-within : (test : Cell → Bool) (rows : Rows) (s : Spot) (other : Cell) → IsWithin rows s
    → holds test rows s ≡ test (get_or (get_or rows s.row []) s.col other)
unfolding holds
holds-within test rows s other within = ap (λ o. option_map_or test o false) (cell_at-within rows s other within)

-- the lengths of rows stay
pub shape-with_cell : (rows : Rows) (t : Spot) (cell : Cell) → map (λ row. length row) (with_cell rows t cell) ≡ map (λ row. length row) rows
unfolding with_cell
shape-with_cell rows t cell = map-set_same (λ (row : List Cell). length row) rows t.row (set (get_or rows t.row []) t.col cell) []
    (length-set (get_or rows t.row []) t.col cell)

-- a count changes by the cell that goes and the one that comes
pub count_in-with_cell : (test : Cell → Bool) (rows : Rows) (t : Spot) (cell : Cell) → IsWithin rows t
    → count_in test (with_cell rows t cell) + (if holds test rows t then 1 else 0) ≡ count_in test rows + (if test cell then 1 else 0)
unfolding with_cell
count_in-with_cell test rows t cell within =
    let row = get_or rows t.row [] in
    let in_rows = sum_by-set (count_by test) rows t.row (set row t.col cell) [] within.row in
    let in_row = sum_by-set (λ c. if test c then 1 else 0) row t.col cell Wall within.col in
    let here = ap {B = ℕ} (λ b. if b then 1 else 0) (holds-within test rows t Wall within) in
    omega (arith, in_rows, in_row, here)

-- a cell that passes is counted
pub count_in-holds : (test : Cell → Bool) (rows : Rows) (s : Spot) → holds test rows s ≡ true → 0 < count_in test rows
count_in-holds test rows s e =
    let within = IsWithin-from_holds test rows s e in
    let row = get_or rows s.row [] in
    let in_rows = get_or-le-sum_by (count_by test) rows s.row [] within.row in
    let in_row = get_or-le-sum_by (λ c. if test c then 1 else 0) row s.col Wall within.col in
    let here = ap {B = ℕ} (λ b. if b then 1 else 0) (sym (holds-within test rows s Wall within) ∙ e) in
    omega (arith, in_rows, in_row, here)

-- where none passes, none is counted
pub count_in-none : (test : Cell → Bool) (rows : Rows) → ((s : Spot) → holds test rows s ≡ false) → count_in test rows ≡ 0
count_in-none test rows none =
    let no_cell = λ (r k : ℕ) (row : List Cell) (cell : Cell) (within_row : r < length rows) (within_col : k < length (get_or rows r row)).
    let same : get_or rows r row ≡ get_or rows r [] = get_or_default rows r row [] within_row in
    let inside : IsWithin rows (record { row = r; col = k }) =
    record { row = within_row; col = subst (λ (cells : List Cell). k < length cells) same within_col } in
    let fails : test (get_or (get_or rows r row) k cell) ≡ false =
    ap (λ (cells : List Cell). test (get_or cells k cell)) same ∙ sym (holds-within test rows (record { row = r; col = k }) cell inside)
    ∙ none (record { row = r; col = k }) in
    fails in
    let no_row = λ (r : ℕ) (row : List Cell) (within_row : r < length rows).
    let least : count_by test (get_or rows r row) ≤ length (get_or rows r row) * 0 =
    sum_by-le (λ c. if test c then 1 else 0) 0 (get_or rows r row) (λ k cell within_col.
    let zero_there = ap {B = ℕ} (λ b. if b then 1 else 0) (no_cell r k row cell within_row within_col) in
    omega (arith, zero_there)) in
    let none_there : count_by test (get_or rows r row) ≤ 0 = omega (arith, least) in none_there in
    let least = sum_by-le (count_by test) 0 rows no_row in
    omega (arith, least)

-- a place in rows that are vectors
pub row-cells_of : {A : Type 0} (rows : List (Vec Cell A)) (r : ℕ) (row : Vec Cell A) → r < length rows → row ≡ get_or rows r row
    → get_or (cells_of rows) r [] ≡ row.items
row-cells_of rows r row within there =
    get_or_default (cells_of rows) r [] row.items (omega (arith, length-map rows (λ (v : Vec Cell _). v.items)))
    ∙ get_or-map (λ (v : Vec Cell _). v.items) rows r row ∙ ap (λ (v : Vec Cell _). v.items) (sym there)

pub row_within-cells_of : {A : Type 0} (rows : List (Vec Cell A)) (s : Spot) → IsWithin (cells_of rows) s → s.row < length rows
row_within-cells_of rows s within = omega (arith, within.row, length-map rows (λ (v : Vec Cell _). v.items))

pub col_within-cells_of : {A : Type 0} (rows : List (Vec Cell A)) (s : Spot) (row : Vec Cell A) → IsWithin (cells_of rows) s → row ≡ get_or rows s.row row
    → s.col < length row.items
col_within-cells_of rows s row within there = subst (λ (cells : List Cell). s.col < length cells)
    (row-cells_of rows s.row row (row_within-cells_of rows s within) there) within.col

pub cells_of-set : {A : Type 0} (rows : List (Vec Cell A)) (s : Spot) (cell : Cell) (old new : Vec Cell A) → IsWithin (cells_of rows) s
    → old ≡ get_or rows s.row old → new.items ≡ set old.items s.col cell → cells_of (set rows s.row new) ≡ with_cell (cells_of rows) s cell
unfolding with_cell
cells_of-set rows s cell old new within there changed =
    map-set (λ (v : Vec Cell _). v.items) rows s.row new
    ∙ ap (set (cells_of rows) s.row) (changed ∙ ap (λ cells. set cells s.col cell)
    (sym (row-cells_of rows s.row old (row_within-cells_of rows s within) there)))

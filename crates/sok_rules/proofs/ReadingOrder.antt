-- The places of rows, one after another.
use Rattle.std.proofs.Common.{ℕ, ◌≡◌, ◌<◌, ◌≤◌, ◌+◌, refl, sym, ap, ◌∙◌, subst, List, [], ◌∷◌, ◌++◌, Some, All, Contains, arith}
use Rattle.std.proofs.Common.{length, get_or, slice_get, zero, suc, take, drop, Vec}
use Rattle.std.proofs.Math.ListN.{get_or-map}
use Rattle.std.proofs.lemmas.List.{take_more, take_all, at_drop_more}
use Rattle.sok_rules.specs.Levels.{cells_of}
use Rattle.std.proofs.lemmas.Option.{none-some, same_Some, option_and_then_some, slice_get_within}
use Rattle.std.proofs.lemmas.List.Elements.{All-append, All-weaker, All-nil, Contains-append_left, Contains-append_right}
use Rattle.sok_rules.specs.declared.cell.Cell.{Cell}
use Rattle.sok_rules.specs.declared.cell.Spot.{Spot}
use Rattle.sok_rules.specs.Squares.{Rows, cell_at, places, places_from, places_in_row}

pub length-places_in_row : (r c : ℕ) (cells : List Cell) → length (places_in_row r c cells) ≡ length cells
unfolding places_in_row
length-places_in_row r c [] = refl
length-places_in_row r c (cell ∷ cells) = ap suc (length-places_in_row r (c + 1) cells)

pub get_or-places_in_row : (r c : ℕ) (cells : List Cell) (k : ℕ) (d : Spot) → k < length cells
    → get_or (places_in_row r c cells) k d ≡ record { row = r; col = c + k }
unfolding places_in_row
get_or-places_in_row r c [] k d within = absurd (omega (arith, within))
get_or-places_in_row r c (cell ∷ cells) zero d within = let same : c ≡ c + 0 = omega arith in ap (λ n. record { row = r; col = n }) same
get_or-places_in_row r c (cell ∷ cells) (suc k) d within =
    let same : c + 1 + k ≡ c + suc k = omega arith in
    get_or-places_in_row r (c + 1) cells k d (omega (arith, within)) ∙ ap (λ n. record { row = r; col = n }) same

pub row-places_in_row : (r c : ℕ) (cells : List Cell) → All (λ (s : Spot). s.row ≡ r) (places_in_row r c cells)
row-places_in_row r c cells = λ k d within. ap (λ (s : Spot). s.row)
    (get_or-places_in_row r c cells k d (omega (arith, within, length-places_in_row r c cells)))

pub below-places_from : (r : ℕ) (rows : Rows) → All (λ (s : Spot). r ≤ s.row) (places_from r rows)
unfolding places_from
below-places_from r [] = All-nil (λ (s : Spot). r ≤ s.row)
below-places_from r (row ∷ rows) = All-append (λ (s : Spot). r ≤ s.row) (places_in_row r 0 row) (places_from (r + 1) rows)
    (All-weaker (λ (s : Spot). s.row ≡ r) (λ (s : Spot). r ≤ s.row) (λ s e. omega (arith, e)) (places_in_row r 0 row) (row-places_in_row r 0 row))
    (All-weaker (λ (s : Spot). r + 1 ≤ s.row) (λ (s : Spot). r ≤ s.row) (λ s e. omega (arith, e)) (places_from (r + 1) rows) (below-places_from (r + 1) rows))

contains-places_from : (r : ℕ) (rows : Rows) (i : ℕ) (row : List Cell) (c : ℕ) → slice_get rows i ≡ Some row → c < length row
    → Contains (places_from r rows) (record { row = r + i; col = c })
unfolding places_from
contains-places_from r [] i row c at within = absurd (none-some row at)
contains-places_from r (first ∷ rows) zero row c at within =
    let same : first ≡ row = same_Some first row at in
    let short : c < length first = subst (λ (cells : List Cell). c < length cells) (sym same) within in
    let place = get_or-places_in_row r 0 first c (record { row = r + 0; col = c }) short in
    let row_is : r ≡ r + 0 = omega arith in
    let col_is : 0 + c ≡ c = omega arith in
    let here : Contains (places_in_row r 0 first) (record { row = r + 0; col = c }) =
    (c, omega (arith, short, length-places_in_row r 0 first), place ∙ (λ j. record { row = row_is j; col = col_is j })) in
    Contains-append_left (places_in_row r 0 first) (places_from (r + 1) rows) _ here
contains-places_from r (first ∷ rows) (suc i) row c at within =
    let row_is : r + 1 + i ≡ r + suc i = omega arith in
    let there = contains-places_from (r + 1) rows i row c at within in
    Contains-append_right (places_in_row r 0 first) (places_from (r + 1) rows) _
    (subst (λ n. Contains (places_from (r + 1) rows) (record { row = n; col = c })) row_is there)

-- a square at which a row has a cell is among the places
pub Contains-places : (rows : Rows) (s : Spot) (cell : Cell) → cell_at rows s ≡ Some cell → Contains (places rows) s
unfolding places
Contains-places rows s cell at = option_and_then_some (λ row. slice_get row s.col) (slice_get rows s.row) cell at (λ row found here.
    let row_is : 0 + s.row ≡ s.row = omega arith in
    subst (λ n. Contains (places_from 0 rows) (record { row = n; col = s.col })) row_is
    (contains-places_from 0 rows s.row row s.col found (slice_get_within row s.col cell here)))

-- one more cell of a row
pub take_more-places_in_row : (r : ℕ) (cells : List Cell) (c : ℕ) → c < length cells
    → take (c + 1) (places_in_row r 0 cells) ≡ take c (places_in_row r 0 cells) ++ record { row = r; col = c } ∷ []
take_more-places_in_row r cells c within =
    let here : Spot = record { row = r; col = c } in
    let col_is : 0 + c ≡ c = omega arith in
    take_more (places_in_row r 0 cells) c here (omega (arith, within, length-places_in_row r 0 cells))
    ∙ ap (λ s. take c (places_in_row r 0 cells) ++ s ∷ []) (get_or-places_in_row r 0 cells c here within ∙ ap (λ n. record { row = r; col = n }) col_is)

pub take_all-places_in_row : (r : ℕ) (cells : List Cell) (c : ℕ) → length cells ≤ c → take c (places_in_row r 0 cells) ≡ places_in_row r 0 cells
take_all-places_in_row r cells c past = take_all c (places_in_row r 0 cells) (omega (arith, past, length-places_in_row r 0 cells))

pub places_from-nil : (r : ℕ) → places_from r [] ≡ []
unfolding places_from
places_from-nil r = refl

-- one more row
pub places_from-drop : (rows : Rows) (r : ℕ) (row : List Cell) → r < length rows → row ≡ get_or rows r row
    → places_from r (drop r rows) ≡ places_in_row r 0 row ++ places_from (r + 1) (drop (r + 1) rows)
unfolding places_from
places_from-drop rows r row within is = at_drop_more (places_from r) rows r row within
    ∙ ap (λ cells. places_in_row r 0 cells ++ places_from (r + 1) (drop (r + 1) rows)) (sym is)

pub places_from_none : (rows : Rows) → [] ++ places_from 0 (drop 0 rows) ≡ places rows
unfolding places
places_from_none rows = refl

-- the cells of a row that is a vector
pub cells_of-row : {A : Type 0} (rows : List (Vec Cell A)) (i : ℕ) (row : Vec Cell A) → row ≡ get_or rows i row → row.items ≡ get_or (cells_of rows) i row.items
cells_of-row rows i row is = ap (λ (r : Vec Cell _). r.items) is ∙ sym (get_or-map (λ (r : Vec Cell _). r.items) rows i row)

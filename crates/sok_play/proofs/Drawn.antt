-- What shows of a level, square by square.
use Rattle.std.proofs.Common.{ℕ, ◌≡◌, ◌∙◌, ◌+◌, ◌<◌, ◌≤◌, refl, sym, ap, subst, arith, List, [], ◌∷◌, ◌++◌, Vec, Option, Some, None, Result, Ok, IsSome, IsSomeAnd}
use Rattle.std.proofs.Common.{All, get_or, length, map, option_map, take, true≢false}
use Rattle.std.proofs.lemmas.List.{length-map, length-take-le, map-append, take_all, take_more}
use Rattle.std.proofs.lemmas.Option.{same_Some}
use Rattle.sok_rules.specs.Limits.{size_limit}
use Rattle.sok_rules.specs.declared.cell.Cell.{Cell}
use Rattle.sok_rules.specs.declared.cell.Cell.TheVariants.{Wall}
use Rattle.sok_rules.specs.declared.cell.Dir.{Dir}
use Rattle.sok_rules.specs.declared.cell.Spot.{Spot}
use Rattle.sok_rules.specs.declared.fault.LevelFault.{LevelFault}
use Rattle.sok_rules.specs.Levels.{IsProper, cells_of, level_of, trimmed}
use Rattle.sok_rules.specs.Play.{Position, run, start}
use Rattle.sok_rules.specs.Session.{cell_in_play, shown_cell}
use Rattle.sok_rules.specs.Squares.{Rows, same_spot}
use Rattle.sok_rules.proofs.Grid.{cell_at-within}
use Rattle.sok_rules.proofs.ReadingOrder.{cells_of-row}
use Rattle.sok_rules.proofs.Proper.{level_of-none, none-from_IsProper}
use Rattle.sok_play.specs.Drawings.{rows_at, shown_from, shown_row}
use Rattle.sok_play.proofs.Shown.{at_place, proper_after}

shown_row-append : (x : Position) (r c : ℕ) (a b : List Cell) → shown_row x r c (a ++ b) ≡ shown_row x r c a ++ shown_row x r (c + length a) b
unfolding shown_row
shown_row-append x r c [] b = let same : c ≡ c + 0 = omega arith in ap (λ n. shown_row x r n b) same
shown_row-append x r c (cell ∷ a) b =
    let same : c + 1 + length a ≡ c + length (cell ∷ a) = omega arith in
    ap (λ rest. at_place x r c cell ∷ rest) (shown_row-append x r (c + 1) a b ∙ ap (λ n. shown_row x r (c + 1) a ++ shown_row x r n b) same)

-- one more square of a row
pub shown_row-take_more : (x : Position) (r : ℕ) (row : List Cell) (i : ℕ) (d : Cell) → i < length row
    → shown_row x r 0 (take (i + 1) row) ≡ shown_row x r 0 (take i row) ++ at_place x r i (get_or row i d) ∷ []
unfolding shown_row
shown_row-take_more x r row i d within =
    let place : 0 + length (take i row) ≡ i = omega (arith, length-take-le i row (omega (arith, within))) in
    ap (shown_row x r 0) (take_more row i d within) ∙ shown_row-append x r 0 (take i row) (get_or row i d ∷ [])
    ∙ ap (λ n. shown_row x r 0 (take i row) ++ at_place x r n (get_or row i d) ∷ []) place

shown_from-append : (x : Position) (r : ℕ) (a b : Rows) → shown_from x r (a ++ b) ≡ shown_from x r a ++ shown_from x (r + length a) b
unfolding shown_from
shown_from-append x r [] b = let same : r ≡ r + 0 = omega arith in ap (λ n. shown_from x n b) same
shown_from-append x r (row ∷ a) b =
    let same : r + 1 + length a ≡ r + length (row ∷ a) = omega arith in
    ap (λ rest. shown_row x r 0 row ∷ rest) (shown_from-append x (r + 1) a b ∙ ap (λ n. shown_from x (r + 1) a ++ shown_from x n b) same)

shown_from-take_more : (x : Position) (rows : Rows) (i : ℕ) → i < length rows
    → shown_from x 0 (take (i + 1) rows) ≡ shown_from x 0 (take i rows) ++ shown_row x i 0 (get_or rows i []) ∷ []
unfolding shown_from
shown_from-take_more x rows i within =
    let place : 0 + length (take i rows) ≡ i = omega (arith, length-take-le i rows (omega (arith, within))) in
    ap (shown_from x 0) (take_more rows i [] within) ∙ shown_from-append x 0 (take i rows) (get_or rows i [] ∷ [])
    ∙ ap (λ n. shown_from x 0 (take i rows) ++ shown_row x n 0 (get_or rows i []) ∷ []) place

-- a square that a row has shows
cell_seen : (rows : Rows) (x : Position) (s : Spot) (row col : ℕ) → s ≡ record { row = row; col = col } → row < length rows
    → col < length (get_or rows row []) → cell_in_play rows x s ≡ Some (at_place x row col (get_or (get_or rows row []) col Wall))
cell_seen rows x s row col is within inside =
    let here : Spot = record { row = row; col = col } in
    ap (cell_in_play rows x) is
    ∙ ap (option_map (λ cell. shown_cell cell (x.boxes here) (same_spot x.man here))) (cell_at-within rows here Wall (record { row = within; col = inside }))

pub seen : (rows : Rows) (s : Spot) (row col : ℕ) (o : Option Position) (found : Option Cell) → s ≡ record { row = row; col = col } → row < length rows
    → col < length (get_or rows row []) → IsSomeAnd o (λ x. found ≡ cell_in_play rows x s) → IsSome found
seen rows s row col None found is within inside none = absurd none
seen rows s row col (Some x) found is within inside shows = subst IsSome (sym (shows ∙ cell_seen rows x s row col is within inside)) refl

-- one more square of a row is drawn
pub row_more : (rows : Rows) (s : Spot) (row col : ℕ) (x : Position) (o : Option Position) (found : Option Cell) (cell : Cell) (cells : List Cell)
    → s ≡ record { row = row; col = col } → row < length rows → col < length (get_or rows row []) → IsSomeAnd o (λ x. found ≡ cell_in_play rows x s)
    → found ≡ Some cell → o ≡ Some x → cells ≡ shown_row x row 0 (take col (get_or rows row []))
    → cells ++ cell ∷ [] ≡ shown_row x row 0 (take (col + 1) (get_or rows row []))
row_more rows s row col x o found cell cells is within inside shows there at so_far =
    let shown : found ≡ cell_in_play rows x s = subst (λ o. IsSomeAnd o (λ x. found ≡ cell_in_play rows x s)) at shows in
    let same : cell ≡ at_place x row col (get_or (get_or rows row []) col Wall) =
    same_Some _ _ (sym there ∙ shown ∙ cell_seen rows x s row col is within inside) in
    (λ i. so_far i ++ same i ∷ []) ∙ sym (shown_row-take_more x row (get_or rows row []) col Wall inside)

-- one more row is drawn
pub level_more : {A : Type 0} (level : Rows) (i : ℕ) (x : Position) (rows : List (Vec Cell A)) (row : Vec Cell A) → i < length level
    → row.items ≡ shown_row x i 0 (get_or level i []) → cells_of rows ≡ shown_from x 0 (take i level)
    → cells_of (rows ++ row ∷ []) ≡ shown_from x 0 (take (i + 1) level)
level_more level i x rows row within is so_far =
    map-append (λ (r : Vec Cell _). r.items) rows (row ∷ []) ∙ (λ j. so_far j ++ is j ∷ []) ∙ sym (shown_from-take_more x level i within)

-- a row of a level has few cells
pub row_few : {A : Type 0} (level : Rows) (rows : List (Vec Cell A)) (i : ℕ) (row : Vec Cell A) → cells_of rows ≡ level → i < length rows
    → row ≡ get_or rows i row → All (λ r. length r ≤ size_limit) level → length row.items ≤ size_limit
row_few level rows i row same within is few =
    let here : row.items ≡ get_or level i row.items = cells_of-row rows i row is ∙ ap (λ l. get_or l i row.items) same in
    let inside : i < length level = omega (arith, within, length-map rows (λ (r : Vec Cell _). r.items), ap length same) in
    omega (arith, ap length here, few i row.items inside)

pub as_many : {A : Type 0} (level : Rows) (rows : List (Vec Cell A)) → cells_of rows ≡ level → length level ≡ length rows
as_many level rows same = omega (arith, length-map rows (λ (r : Vec Cell _). r.items), ap length same)

-- once all rows are drawn they are those of the position, and a level
module _ {A : Type 0} (level : Rows) (rows : List (Vec Cell A)) (i : ℕ) (same : cells_of rows ≡ level) (past : length rows ≤ i) (drawn : Rows)
    (letters : List Dir) (now : Option Position) (so_far : (x : Position) → now ≡ Some x → drawn ≡ shown_from x 0 (take i level)) where
  pub all_drawn : (x : Position) → now ≡ Some x → drawn ≡ shown_from x 0 level
  all_drawn x at = so_far x at ∙ ap (shown_from x 0) (take_all i level (omega (arith, past, as_many level rows same)))

  pub drawn_proper : IsProper level → run level (start level) letters ≡ now → IsSome now → IsProper (map trimmed drawn)
  drawn_proper proper ran legal = by now all_drawn legal ran
    where
      by : (o : Option Position) → ((x : Position) → o ≡ Some x → drawn ≡ shown_from x 0 level) → IsSome o → run level (start level) letters ≡ o
          → IsProper (map trimmed drawn)
      by None is none ran = absurd (true≢false (sym none))
      by (Some x) is some ran = subst (λ r. IsProper (map trimmed r)) (sym (is x refl)) (proper_after level letters x proper ran)

abbrev a_level : Rows → Result Rows LevelFault
a_level rows = Ok rows

pub drawn_level : (level drawn made : Rows) (x : Position) → IsProper (map trimmed drawn) → a_level made ≡ level_of drawn → drawn ≡ shown_from x 0 level
    → made ≡ rows_at level x
drawn_level level drawn made x proper is all =
    let same : a_level made ≡ a_level (map trimmed drawn) = is ∙ level_of-none drawn (none-from_IsProper (map trimmed drawn) proper) in
    let here : made ≡ map trimmed drawn = cc in here ∙ ap (map trimmed) all

-- Rows of cells: floor dropped at their ends, tests and counts over them.
use Rattle.std.proofs.Common.{Vec, take, get_or, length, ◌<◌, ◌≤◌, arith, sym, ℕ, ◌≡◌, ◌≢◌, refl, ap, ◌∙◌, List, [], ◌∷◌, ◌++◌}
use Rattle.std.proofs.Common.{Bool, map, set, drop, sum_by, position, if◌then◌else◌, nat_lt, not, count_by, ◌||◌, ◌+◌}
use Rattle.std.proofs.lemmas.List.{take_more, drop_more, get_or_default, append_assoc, length-take-le, length-map, map-append}
use Rattle.std.proofs.lemmas.List.{map-set, take_all, drop_all, append-nil}
use Rattle.std.proofs.Math.Seq.{take-append_seam, set-append_seam, map-set_same}
use Rattle.std.proofs.Math.ListN.{get_or-map}
use Rattle.std.proofs.lemmas.List.Edits.{map_over_more}
use Rattle.std.specs.List.{list_any, prefix_len, fold}
use Rattle.sok_rules.specs.Limits.{size_limit}
use Rattle.sok_rules.specs.declared.cell.Cell.{Cell}
use Rattle.sok_rules.specs.declared.cell.Cell.TheVariants.{Wall, Floor, Goal, BoxOff, BoxOn, ManOff, ManOn}
use Rattle.sok_rules.specs.Squares.{Rows, is_wall, is_man, is_box}
use Rattle.sok_rules.specs.Levels.{onto, trimmed, cells_of, fault_of}
use Rattle.sok_rules.proofs.Proper.{first_fault}

-- a row with floor at its end
pub trimmed-floor : (row : List Cell) → trimmed (row ++ Floor ∷ []) ≡ trimmed row
trimmed-floor [] = refl
trimmed-floor (cell ∷ row) = ap (onto cell) (trimmed-floor row)

onto-cons : (first second : Cell) (row : List Cell) → onto first (second ∷ row) ≡ first ∷ second ∷ row
onto-cons Wall second row = refl
onto-cons Floor second row = refl
onto-cons Goal second row = refl
onto-cons BoxOff second row = refl
onto-cons BoxOn second row = refl
onto-cons ManOff second row = refl
onto-cons ManOn second row = refl

onto-none : (last : Cell) → last ≢ Floor → onto last [] ≡ last ∷ []
onto-none Wall firm = refl
onto-none Floor firm = absurd (firm refl)
onto-none Goal firm = refl
onto-none BoxOff firm = refl
onto-none BoxOn firm = refl
onto-none ManOff firm = refl
onto-none ManOn firm = refl

-- a cell alone in its row
onto_alone : (cell : Cell) → trimmed (onto cell []) ≡ onto cell []
onto_alone Wall = refl
onto_alone Floor = refl
onto_alone Goal = refl
onto_alone BoxOff = refl
onto_alone BoxOn = refl
onto_alone ManOff = refl
onto_alone ManOn = refl

onto-push : (cell last : Cell) (row : List Cell) → onto cell (row ++ last ∷ []) ≡ cell ∷ (row ++ last ∷ [])
onto-push cell last [] = onto-cons cell last []
onto-push cell last (next ∷ row) = onto-cons cell next (row ++ last ∷ [])

-- a row that ends otherwise
pub trimmed-push : (row : List Cell) (last : Cell) → last ≢ Floor → trimmed (row ++ last ∷ []) ≡ row ++ last ∷ []
trimmed-push [] last firm = onto-none last firm
trimmed-push (cell ∷ row) last firm = ap (onto cell) (trimmed-push row last firm) ∙ onto-push cell last row

-- the front of a row whose last cell is floor
pub trimmed-take_floor : (row : List Cell) (place : ℕ) (other : Cell) → place < length row → get_or row place other ≡ Floor
    → trimmed (take (place + 1) row) ≡ trimmed (take place row)
trimmed-take_floor row place other within floor =
    ap trimmed (take_more row place other within) ∙ ap (λ cell. trimmed (take place row ++ cell ∷ [])) floor ∙ trimmed-floor (take place row)

-- the front of a row whose last cell is another
pub trimmed-take_other : (row : List Cell) (place : ℕ) (other : Cell) → place < length row → get_or row place other ≢ Floor
    → take (place + 1) row ≡ trimmed (take (place + 1) row)
trimmed-take_other row place other within firm =
    take_more row place other within ∙ sym (trimmed-push (take place row) (get_or row place other) firm) ∙ ap trimmed (sym (take_more row place other within))

-- what has no floor at its end stays as it is
trimmed-onto : (cell : Cell) (row : List Cell) → trimmed row ≡ row → trimmed (onto cell row) ≡ onto cell row
trimmed-onto cell [] same = onto_alone cell
trimmed-onto cell (next ∷ row) same = ap trimmed (onto-cons cell next row) ∙ ap (onto cell) same

pub trimmed-trimmed : (row : List Cell) → trimmed (trimmed row) ≡ trimmed row
trimmed-trimmed [] = refl
trimmed-trimmed (cell ∷ row) = trimmed-onto cell (trimmed row) (trimmed-trimmed row)

pub all_trimmed : (rows : Rows) → map trimmed (map trimmed rows) ≡ map trimmed rows
all_trimmed [] = refl
all_trimmed (row ∷ rows) = λ i. trimmed-trimmed row i ∷ all_trimmed rows i

walls-onto : (cell : Cell) (row : List Cell) → list_any is_wall (onto cell row) ≡ (is_wall cell || list_any is_wall row)
walls-onto Wall row = refl
walls-onto Floor [] = refl
walls-onto Floor (next ∷ row) = refl
walls-onto Goal row = refl
walls-onto BoxOff row = refl
walls-onto BoxOn row = refl
walls-onto ManOff row = refl
walls-onto ManOn row = refl

-- no wall is trimmed
pub walls-trimmed : (row : List Cell) → list_any is_wall (trimmed row) ≡ list_any is_wall row
walls-trimmed [] = refl
walls-trimmed (cell ∷ row) = walls-onto cell (trimmed row) ∙ ap (λ b. is_wall cell || b) (walls-trimmed row)

-- tests over the cells of vectors
pub list_any-cells_of : {A : Type 0} (test : List Cell → Bool) (rows : List (Vec Cell A))
    → list_any test (cells_of rows) ≡ list_any (λ row. test row.items) rows
list_any-cells_of test [] = refl
list_any-cells_of test (row ∷ rows) = ap (λ b. test row.items || b) (list_any-cells_of test rows)

prefix_len-cells_of : {A : Type 0} (test : List Cell → Bool) (rows : List (Vec Cell A))
    → prefix_len test (cells_of rows) ≡ prefix_len (λ row. test row.items) rows
prefix_len-cells_of test [] = refl
prefix_len-cells_of test (row ∷ rows) = ap (λ n. if test row.items then 1 + n else 0) (prefix_len-cells_of test rows)

pub position-cells_of : {A : Type 0} (test : List Cell → Bool) (rows : List (Vec Cell A))
    → position test (cells_of rows) ≡ position (λ row. test row.items) rows
position-cells_of test rows = simp (prefix_len-cells_of, length-map)

sum_from-cells_of : {A : Type 0} (term : List Cell → ℕ) (rows : List (Vec Cell A)) (so_far : ℕ)
    → fold (λ a row. a + term row) so_far (cells_of rows) ≡ fold (λ a row. a + term row.items) so_far rows
sum_from-cells_of term [] so_far = refl
sum_from-cells_of term (row ∷ rows) so_far = sum_from-cells_of term rows (so_far + term row.items)

pub sum_by-cells_of : {A : Type 0} (term : List Cell → ℕ) (rows : List (Vec Cell A)) → sum_by term (cells_of rows) ≡ sum_by (λ row. term row.items) rows
sum_by-cells_of term rows = sum_from-cells_of term rows 0

-- the first fault of rows that are vectors
pub fault_of-cells_of : {A : Type 0} (rows : List (Vec Cell A)) → fault_of (cells_of rows)
    ≡ first_fault (nat_lt size_limit (length rows)) (list_any (λ row. nat_lt size_limit (length row.items)) rows) (position (λ row. not (list_any is_wall row.items)) rows)
    (sum_by (λ row. count_by is_man row.items) rows) (list_any (λ row. list_any is_box row.items) rows)
unfolding fault_of
fault_of-cells_of rows =
    let height = ap (nat_lt size_limit) (length-map rows (λ row. row.items)) in
    let long = list_any-cells_of (λ row. nat_lt size_limit (length row)) rows in
    let unwalled = position-cells_of (λ row. not (list_any is_wall row)) rows in
    let men = sum_by-cells_of (count_by is_man) rows in
    let boxed = list_any-cells_of (list_any is_box) rows in
    λ i. first_fault (height i) (long i) (unwalled i) (men i) (boxed i)

-- one more row is trimmed
pub cells_of_trimmed_more : {A : Type 0} (old : Rows) (rows : List (Vec Cell A)) (i : ℕ) (row new : Vec Cell A) → i < length old
    → cells_of rows ≡ map trimmed (take i old) ++ drop i old → row ≡ get_or rows i row → new.items ≡ trimmed row.items
    → cells_of (set rows i new) ≡ map trimmed (take (i + 1) old) ++ drop (i + 1) old
cells_of_trimmed_more old rows i row new within so_far there is =
    map-set (λ (r : Vec Cell _). r.items) rows i new
    ∙ ap (set (cells_of rows) i) is ∙ map_over_more trimmed old (cells_of rows) i row.items within so_far (ap (λ (r : Vec Cell _). r.items) there
    ∙ sym (get_or-map (λ (r : Vec Cell _). r.items) rows i row))

-- all rows are
pub cells_of_trimmed_all : {A : Type 0} (old rows : List (Vec Cell A)) (n i : ℕ) → n ≡ length rows → length rows ≡ length old → length old ≤ i
    → cells_of rows ≡ map trimmed (take i (cells_of old)) ++ drop i (cells_of old)
    → cells_of (take n (rows ++ drop (length rows) old)) ≡ map trimmed (cells_of old)
cells_of_trimmed_all old rows n i whole same end so_far =
    let past : length (cells_of old) ≤ i = omega (arith, length-map old (λ (r : Vec Cell _). r.items)) in
    ap (λ m. cells_of (take m (rows ++ drop (length rows) old))) whole ∙ ap cells_of (take-append_seam rows (drop (length rows) old)) ∙ so_far
    ∙ ap (λ rest. map trimmed (take i (cells_of old)) ++ rest) (drop_all i (cells_of old) past) ∙ append-nil _
    ∙ ap (map trimmed) (take_all i (cells_of old) past)

-- one more row is copied
pub cells_of_copied_more : {A : Type 0} (rows copy : List (Vec Cell A)) (i : ℕ) (row new : Vec Cell A) → i < length rows
    → cells_of copy ≡ take i (cells_of rows) → row ≡ get_or rows i row → new.items ≡ row.items → cells_of (copy ++ new ∷ []) ≡ take (i + 1) (cells_of rows)
cells_of_copied_more rows copy i row new within so_far there same =
    let inside : i < length (cells_of rows) = omega (arith, length-map rows (λ (r : Vec Cell _). r.items)) in
    map-append (λ (r : Vec Cell _). r.items) copy (new ∷ []) ∙ ap (λ front. front ++ new.items ∷ []) so_far
    ∙ ap (λ cells. take i (cells_of rows) ++ cells ∷ []) (same ∙ ap (λ (r : Vec Cell _). r.items) there
    ∙ sym (get_or-map (λ (r : Vec Cell _). r.items) rows i row))
    ∙ sym (take_more (cells_of rows) i row.items inside)

-- one more row is written over
pub cells_of_copied_over_more : {A : Type 0} (old : Rows) (rows cells : List (Vec Cell A)) (at : ℕ) (row new : Vec Cell A) → at < length rows → at < length old
    → cells_of cells ≡ take at (cells_of rows) ++ drop at old → row ≡ get_or rows at row → new.items ≡ row.items
    → cells_of (set cells at new) ≡ take (at + 1) (cells_of rows) ++ drop (at + 1) old
cells_of_copied_over_more old rows cells at row new within within_old so_far there same =
    let r = cells_of rows in
    let inside : at < length r = omega (arith, within, length-map rows (λ (v : Vec Cell _). v.items)) in
    let size : length (take at r) ≡ at = length-take-le at r (omega (arith, inside)) in
    let is : new.items ≡ get_or r at row.items = same ∙ ap (λ (v : Vec Cell _). v.items) there ∙ sym (get_or-map (λ (v : Vec Cell _). v.items) rows at row) in
    map-set (λ (v : Vec Cell _). v.items) cells at new
    ∙ ap (λ xs. set xs at new.items) (so_far ∙ ap (λ back. take at r ++ back) (drop_more old at [] within_old))
    ∙ ap (λ n. set (take at r ++ (get_or old at [] ∷ drop (at + 1) old)) n new.items) (sym size)
    ∙ set-append_seam (take at r) (get_or old at []) (drop (at + 1) old) new.items
    ∙ ap (λ line. take at r ++ (line ∷ drop (at + 1) old)) is ∙ sym (append_assoc (take at r) (get_or r at row.items ∷ []) (drop (at + 1) old))
    ∙ ap (λ front. front ++ drop (at + 1) old) (sym (take_more r at row.items inside))

length-at : {A : Type 0} (cells : List (Vec Cell A)) (at : ℕ) (row : Vec Cell A) → row ≡ get_or cells at row
    → length (get_or (cells_of cells) at row.items) ≡ length row.items
length-at cells at row there = ap length (get_or-map (λ (v : Vec Cell _). v.items) cells at row) ∙ ap (λ (v : Vec Cell _). length v.items) (sym there)

-- rows of the same lengths
pub same_length-cells_of : {A : Type 0} (rows cells : List (Vec Cell A)) (at : ℕ) (row old : Vec Cell A)
    → map (λ line. length line) (cells_of cells) ≡ map (λ line. length line) (cells_of rows)
    → row ≡ get_or rows at row → old ≡ get_or cells at old → at < length rows → length old.items ≡ length row.items
same_length-cells_of rows cells at row old shape there was within =
    let size : List Cell → ℕ = λ line. length line in
    let inside : at < length (map size (cells_of rows)) =
    omega (arith, within, length-map (cells_of rows) size, length-map rows (λ (v : Vec Cell _). v.items)) in
    sym (length-at cells at old was) ∙ sym (get_or-map size (cells_of cells) at old.items) ∙ ap (λ sizes. get_or sizes at (length old.items)) shape
    ∙ get_or_default (map size (cells_of rows)) at (length old.items) (length row.items) inside ∙ get_or-map size (cells_of rows) at row.items
    ∙ length-at rows at row there

-- stay so where one is written over by one of its length
pub shape-set : {A : Type 0} (rows : Rows) (cells : List (Vec Cell A)) (at : ℕ) (old new : Vec Cell A)
    → map (λ line. length line) (cells_of cells) ≡ map (λ line. length line) rows
    → old ≡ get_or cells at old → length new.items ≡ length old.items → map (λ line. length line) (cells_of (set cells at new)) ≡ map (λ line. length line) rows
shape-set rows cells at old new shape was same =
    let size : List Cell → ℕ = λ line. length line in
    ap (map size) (map-set (λ (v : Vec Cell _). v.items) cells at new)
    ∙ map-set_same size (cells_of cells) at new.items old.items (same ∙ sym (length-at cells at old was)) ∙ shape

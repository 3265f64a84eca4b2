-- What shows of a level in a position is a level that starts there.
use Rattle.std.proofs.Common.{ℕ, ◌≡◌, ◌∙◌, ◌+◌, ◌≤◌, refl, sym, ap, List, [], ◌∷◌, suc, zero, Some, None, Bool, true, false, true≢false}
use Rattle.std.proofs.Common.{not, ◌&&◌, ◌||◌, if◌then◌else◌, option_map, All, IsTrue, map, length, inl, inr, arith, subst}
use Rattle.std.specs.List.{list_any}
use Rattle.std.specs.Prelude.{slice_get}
use Rattle.std.specs.Option.{option_and_then, option_map_or}
use Rattle.std.proofs.lemmas.Bool.{cases_Bool}
use Rattle.std.proofs.lemmas.List.{length-map}
use Rattle.std.proofs.lemmas.List.Elements.{All-cons, All-head, All-nil, All-tail}
use Rattle.sok_rules.specs.Limits.{size_limit}
use Rattle.sok_rules.specs.declared.cell.Cell.{Cell}
use Rattle.sok_rules.specs.declared.cell.Cell.TheVariants.{Wall, Floor, Goal, BoxOff, BoxOn, ManOff, ManOn}
use Rattle.sok_rules.specs.declared.cell.Dir.{Dir}
use Rattle.sok_rules.specs.declared.cell.Spot.{Spot}
use Rattle.sok_rules.specs.Levels.{IsLevel, IsProper, count_in, onto, trimmed}
use Rattle.sok_rules.specs.Play.{After, Position, run, start, step}
use Rattle.sok_rules.specs.Scene.{with_cell}
use Rattle.sok_rules.specs.Session.{cell_in_play, shown_cell}
use Rattle.sok_rules.specs.Squares.{Rows, cell_at, holds, is_box, is_goal, is_man, is_open, is_wall, same_spot}
use Rattle.sok_rules.proofs.Grid.{IsWithin-from_holds, count_in-holds, count_in-none, count_in-with_cell, holds-with_cell, is_open-is}
use Rattle.sok_rules.proofs.Man.{IsStanding-start, list_any-counted}
use Rattle.sok_rules.proofs.Moved.{moved-to}
use Rattle.sok_rules.proofs.Places.{start-scene}
use Rattle.sok_rules.proofs.Rows.{all_trimmed, walls-trimmed}
use Rattle.sok_rules.proofs.Runs.{HasOpenBoxes-run, HasOpenBoxes-start, IsStanding-run, boxes-start, kept-run}
use Rattle.sok_rules.proofs.Spots.{same_spot-is, same_spot-refl}
use Rattle.sok_rules.proofs.Steps.{HasOpenBoxes, IsStanding, step_cases}
use Rattle.sok_text.proofs.Canonical.{texts-are-one-level}
use Rattle.sok_play.specs.Drawings.{DrawingsStand, rows_at, shown_from, shown_row}

-- ---- the cells

-- what shows of a cell by its tests
abbrev told : Bool → Bool → Bool → Bool → Cell
told opened goal boxed man =
    if not opened then Wall else if boxed then (if goal then BoxOn else BoxOff) else if man then
    (if goal then ManOn else ManOff) else if goal then Goal else Floor

record Shows (cell : Cell) (opened goal boxed man : Bool) : Type 0 where
  wall_is : is_wall cell ≡ not opened
  goal_is : is_goal cell ≡ (opened && goal)
  box_is : is_box cell ≡ (opened && boxed)
  man_is : is_man cell ≡ (opened && (not boxed && man))

shows : (opened goal boxed man : Bool) → Shows (told opened goal boxed man) opened goal boxed man
shows false goal boxed man = record { wall_is = refl; goal_is = refl; box_is = refl; man_is = refl }
shows true true true man = record { wall_is = refl; goal_is = refl; box_is = refl; man_is = refl }
shows true false true man = record { wall_is = refl; goal_is = refl; box_is = refl; man_is = refl }
shows true true false true = record { wall_is = refl; goal_is = refl; box_is = refl; man_is = refl }
shows true false false true = record { wall_is = refl; goal_is = refl; box_is = refl; man_is = refl }
shows true true false false = record { wall_is = refl; goal_is = refl; box_is = refl; man_is = refl }
shows true false false false = record { wall_is = refl; goal_is = refl; box_is = refl; man_is = refl }

-- ---- the squares

-- the cell of a row that shows in a position
abbrev pub at_place : Position → ℕ → ℕ → Cell → Cell
at_place x r c cell = let s : Spot = record { row = r; col = c } in shown_cell cell (x.boxes s) (same_spot x.man s)

get-shown_row : (x : Position) (r c : ℕ) (cells : List Cell) (k : ℕ)
    → slice_get (shown_row x r c cells) k ≡ option_map (at_place x r (c + k)) (slice_get cells k)
unfolding shown_row
get-shown_row x r c [] k = refl
get-shown_row x r c (cell ∷ cells) zero = let same : c ≡ c + 0 = omega arith in ap (λ n. Some (at_place x r n cell)) same
get-shown_row x r c (cell ∷ cells) (suc k) =
    let same : c + 1 + k ≡ c + suc k = omega arith in
    get-shown_row x r (c + 1) cells k ∙ ap (λ n. option_map (at_place x r n) (slice_get cells k)) same

get-shown_from : (x : Position) (r : ℕ) (rows : Rows) (k : ℕ)
    → slice_get (shown_from x r rows) k ≡ option_map (shown_row x (r + k) 0) (slice_get rows k)
unfolding shown_from
get-shown_from x r [] k = refl
get-shown_from x r (row ∷ rows) zero = let same : r ≡ r + 0 = omega arith in ap (λ n. Some (shown_row x n 0 row)) same
get-shown_from x r (row ∷ rows) (suc k) =
    let same : r + 1 + k ≡ r + suc k = omega arith in
    get-shown_from x (r + 1) rows k ∙ ap (λ n. option_map (shown_row x n 0) (slice_get rows k)) same

-- what shows at a square is what the rules say
pub cell_at-shown : (rows : Rows) (x : Position) (s : Spot) → cell_at (shown_from x 0 rows) s ≡ cell_in_play rows x s
cell_at-shown rows x s =
    let here : 0 + s.row ≡ s.row = omega arith in
    let col : 0 + s.col ≡ s.col = omega arith in
    ap (option_and_then (λ row. slice_get row s.col)) (get-shown_from x 0 rows s.row ∙ ap (λ n. option_map (shown_row x n 0) (slice_get rows s.row)) here)
    ∙ elim (slice_get rows s.row) as (λ o. option_and_then (λ row. slice_get row s.col) (option_map (shown_row x s.row 0) o)
    ≡ option_map (λ cell. shown_cell cell (x.boxes s) (same_spot x.man s)) (option_and_then (λ row. slice_get row s.col) o)) [
      | None ↦ refl
      | Some row ↦ get-shown_row x s.row 0 row s.col ∙ ap (λ n. option_map (at_place x s.row n) (slice_get row s.col)) col
    ]

-- ---- floor at row ends

abbrev holds_in : (Cell → Bool) → List Cell → ℕ → Bool
holds_in test row k = option_map_or test (slice_get row k) false

-- floor that is dropped passes no test that floor fails
holds_in-onto : (test : Cell → Bool) (cell : Cell) (row : List Cell) (k : ℕ) → test Floor ≡ false → holds_in test (onto cell row) k ≡ holds_in test (cell ∷ row) k
holds_in-onto test Floor [] zero floor = sym floor
holds_in-onto test Floor [] (suc k) floor = refl
holds_in-onto test Floor (next ∷ row) k floor = refl
holds_in-onto test Wall row k floor = refl
holds_in-onto test Goal row k floor = refl
holds_in-onto test BoxOff row k floor = refl
holds_in-onto test BoxOn row k floor = refl
holds_in-onto test ManOff row k floor = refl
holds_in-onto test ManOn row k floor = refl

holds_in-trimmed : (test : Cell → Bool) (row : List Cell) (k : ℕ) → test Floor ≡ false → holds_in test (trimmed row) k ≡ holds_in test row k
holds_in-trimmed test [] k floor = refl
holds_in-trimmed test (cell ∷ row) zero floor = holds_in-onto test cell (trimmed row) zero floor
holds_in-trimmed test (cell ∷ row) (suc k) floor = holds_in-onto test cell (trimmed row) (suc k) floor ∙ holds_in-trimmed test row k floor

holds-trimmed : (test : Cell → Bool) (rows : Rows) (s : Spot) → test Floor ≡ false → holds test (map trimmed rows) s ≡ holds test rows s
unfolding holds
holds-trimmed test rows s floor = by rows s.row
  where
    by : (rows : Rows) (k : ℕ) → option_map_or test (option_and_then (λ row. slice_get row s.col) (slice_get (map trimmed rows) k)) false
        ≡ option_map_or test (option_and_then (λ row. slice_get row s.col) (slice_get rows k)) false
    by [] k = refl
    by (row ∷ rows) zero = holds_in-trimmed test row s.col floor
    by (row ∷ rows) (suc k) = by rows k

length-onto : (cell : Cell) (row : List Cell) → length (onto cell row) ≤ length row + 1
length-onto Floor [] = omega arith
length-onto Floor (next ∷ row) = omega arith
length-onto Wall row = omega arith
length-onto Goal row = omega arith
length-onto BoxOff row = omega arith
length-onto BoxOn row = omega arith
length-onto ManOff row = omega arith
length-onto ManOn row = omega arith

length-trimmed : (row : List Cell) → length (trimmed row) ≤ length row
length-trimmed [] = omega arith
length-trimmed (cell ∷ row) = omega (arith, length-onto cell (trimmed row), length-trimmed row)

-- ---- what shows, by its tests

-- a test of what shows is one of the level's own cell
holds-rows_at : (test : Cell → Bool) (own : Spot → Cell → Bool) (rows : Rows) (x : Position) → test Floor ≡ false
    → ((s : Spot) (cell : Cell) → test (shown_cell cell (x.boxes s) (same_spot x.man s)) ≡ own s cell)
    → (s : Spot) → holds test (rows_at rows x) s ≡ option_map_or (own s) (cell_at rows s) false
unfolding holds
holds-rows_at test own rows x floor same s =
    holds-trimmed test (shown_from x 0 rows) s floor ∙ ap (λ o. option_map_or test o false) (cell_at-shown rows x s)
    ∙ elim (cell_at rows s) as (λ o. option_map_or test (option_map (λ cell. shown_cell cell (x.boxes s) (same_spot x.man s)) o) false
    ≡ option_map_or (own s) o false) [ None ↦ refl | Some cell ↦ same s cell ]

wall_shows : (rows : Rows) (x : Position) (s : Spot) → holds is_wall (rows_at rows x) s ≡ holds is_wall rows s
unfolding holds
wall_shows rows x s =
    holds-rows_at is_wall (λ s cell. is_wall cell) rows x refl
    (λ s cell. (shows (is_open cell) (is_goal cell) (x.boxes s) (same_spot x.man s)).wall_is ∙ ap not (is_open-is cell) ∙ not-not (is_wall cell)) s
  where
    not-not : (b : Bool) → not (not b) ≡ b
    not-not true = refl
    not-not false = refl

goal_shows : (rows : Rows) (x : Position) (s : Spot) → holds is_goal (rows_at rows x) s ≡ holds is_goal rows s
unfolding holds
goal_shows rows x s =
    holds-rows_at is_goal (λ s cell. is_goal cell) rows x refl
    (λ s cell. (shows (is_open cell) (is_goal cell) (x.boxes s) (same_spot x.man s)).goal_is ∙ open_goal cell) s
  where
    open_goal : (cell : Cell) → (is_open cell && is_goal cell) ≡ is_goal cell
    open_goal Wall = refl
    open_goal Floor = refl
    open_goal Goal = refl
    open_goal BoxOff = refl
    open_goal BoxOn = refl
    open_goal ManOff = refl
    open_goal ManOn = refl

-- a test of open squares alone
opened_and : (rows : Rows) (s : Spot) (b : Bool) → (b ≡ true → holds is_open rows s ≡ true)
    → option_map_or (λ cell. is_open cell && b) (cell_at rows s) false ≡ b
unfolding holds
opened_and rows s false opened = elim (cell_at rows s) as (λ o. option_map_or (λ cell. is_open cell && false) o false ≡ false) [
  | None ↦ refl
  | Some cell ↦ elim (is_open cell) as (λ b. (b && false) ≡ false) [ true ↦ refl | false ↦ refl ]
]
opened_and rows s true opened = elim (cell_at rows s) as (λ o. option_map_or is_open o false ≡ true
    → option_map_or (λ cell. is_open cell && true) o false ≡ true) [
      | None ↦ λ e. e
      | Some cell ↦ λ e. ap (λ b. b && true) e
    ] (opened refl)

box_shows : (rows : Rows) (x : Position) → HasOpenBoxes rows x → (s : Spot) → holds is_box (rows_at rows x) s ≡ x.boxes s
box_shows rows x opened s =
    holds-rows_at is_box (λ s cell. is_open cell && x.boxes s) rows x refl
    (λ s cell. (shows (is_open cell) (is_goal cell) (x.boxes s) (same_spot x.man s)).box_is) s
    ∙ opened_and rows s (x.boxes s) (opened s)

-- the player stands where he is seen
man_seen : (x : Position) (s : Spot) → x.boxes x.man ≡ false → (not (x.boxes s) && same_spot x.man s) ≡ same_spot x.man s
man_seen x s free = elim (cases_Bool (same_spot x.man s)) [
  | inl here ↦ λ i. not ((ap x.boxes (sym (same_spot-is x.man s here)) ∙ free) i) && same_spot x.man s
  | inr apart ↦ ap (λ b. not (x.boxes s) && b) apart ∙ none (not (x.boxes s)) ∙ sym apart
]
  where
    none : (b : Bool) → (b && false) ≡ false
    none true = refl
    none false = refl

man_shows : (rows : Rows) (x : Position) → IsStanding rows x → (s : Spot) → holds is_man (rows_at rows x) s ≡ same_spot x.man s
man_shows rows x standing s =
    holds-rows_at is_man (λ s cell. is_open cell && (not (x.boxes s) && same_spot x.man s)) rows x refl
    (λ s cell. (shows (is_open cell) (is_goal cell) (x.boxes s) (same_spot x.man s)).man_is) s
    ∙ ap (λ b. option_map_or (λ cell. is_open cell && b) (cell_at rows s) false) (man_seen x s standing.no_box)
    ∙ opened_and rows s (same_spot x.man s) (λ here. ap (holds is_open rows) (sym (same_spot-is x.man s here)) ∙ standing.on_open)

-- ---- a level

-- some box stands at a position
abbrev HasBox : Position → Type 0
HasBox x = (s : Spot) × (x.boxes s ≡ true)

found_in_row : (test : Cell → Bool) (row : List Cell) → list_any test row ≡ true → (k : ℕ) × (option_map_or test (slice_get row k) false ≡ true)
found_in_row test [] none = absurd (true≢false (sym none))
found_in_row test (cell ∷ row) some = elim (cases_Bool (test cell)) [
  | inl passes ↦ (0, passes)
  | inr fails ↦ let (k, found) = found_in_row test row (sym (ap (λ b. b || list_any test row) fails) ∙ some) in (suc k, found)
]

found_in : (test : Cell → Bool) (rows : Rows) → list_any (list_any test) rows ≡ true → (s : Spot) × (holds test rows s ≡ true)
unfolding holds
found_in test [] none = absurd (true≢false (sym none))
found_in test (row ∷ rows) some = elim (cases_Bool (list_any test row)) [
  | inl passes ↦ let (k, found) = found_in_row test row passes in (record { row = 0; col = k }, found)
  | inr fails ↦
      let (s, found) = found_in test rows (sym (ap (λ b. b || list_any (list_any test) rows) fails) ∙ some) in
      (record { row = suc s.row; col = s.col }, found)
]

HasBox-step : (rows : Rows) (d : Dir) (x : Position) (a : After) → HasBox x → step rows d x ≡ Some a → HasBox a.position
HasBox-step rows d x a has e = elim (step_cases rows d x a e) [
  | inl walk ↦ (has.0, ap (λ (y : After). y.position.boxes has.0) walk.leads ∙ has.1)
  | inr push ↦ (push.to, ap (λ (y : After). y.position.boxes push.to) push.leads ∙ moved-to x.boxes push.from push.to)
]

HasBox-start : (rows : Rows) → IsProper rows → HasBox (start rows)
HasBox-start rows proper =
    let (s, found) = found_in is_box rows proper.some_box in (s, boxes-start rows s ∙ found)

length-shown_from : (x : Position) (r : ℕ) (rows : Rows) → length (shown_from x r rows) ≡ length rows
unfolding shown_from
length-shown_from x r [] = refl
length-shown_from x r (row ∷ rows) = ap suc (length-shown_from x (r + 1) rows)

length-shown_row : (x : Position) (r c : ℕ) (cells : List Cell) → length (shown_row x r c cells) ≡ length cells
unfolding shown_row
length-shown_row x r c [] = refl
length-shown_row x r c (cell ∷ cells) = ap suc (length-shown_row x r (c + 1) cells)

few_columns-shown : (x : Position) (r : ℕ) (rows : Rows) → All (λ row. length row ≤ size_limit) rows → All (λ row. length row ≤ size_limit) (map trimmed (shown_from x r rows))
unfolding shown_from
few_columns-shown x r [] few = All-nil (λ (row : List Cell). length row ≤ size_limit)
few_columns-shown x r (row ∷ rows) few =
    let P : List Cell → Type 0 = λ row. length row ≤ size_limit in
    All-cons P (trimmed (shown_row x r 0 row)) (map trimmed (shown_from x (r + 1) rows))
    (omega (arith, All-head P row rows few, length-trimmed (shown_row x r 0 row), length-shown_row x r 0 row))
    (few_columns-shown x (r + 1) rows (All-tail P row rows few))

walls-shown_row : (x : Position) (r c : ℕ) (cells : List Cell) → list_any is_wall (shown_row x r c cells) ≡ list_any is_wall cells
unfolding shown_row
walls-shown_row x r c [] = refl
walls-shown_row x r c (cell ∷ cells) =
    let s : Spot = record { row = r; col = c } in
    let here : is_wall (shown_cell cell (x.boxes s) (same_spot x.man s)) ≡ is_wall cell =
    (shows (is_open cell) (is_goal cell) (x.boxes s) (same_spot x.man s)).wall_is ∙ ap not (is_open-is cell) ∙ not-not (is_wall cell) in
    λ i. here i || walls-shown_row x r (c + 1) cells i
  where
    not-not : (b : Bool) → not (not b) ≡ b
    not-not true = refl
    not-not false = refl

walls-shown : (x : Position) (r : ℕ) (rows : Rows) → All (λ row. IsTrue (list_any is_wall row)) rows
    → All (λ row. IsTrue (list_any is_wall row)) (map trimmed (shown_from x r rows))
unfolding shown_from
walls-shown x r [] walls = All-nil (λ row. IsTrue (list_any is_wall row))
walls-shown x r (row ∷ rows) walls =
    let P : List Cell → Type 0 = λ row. IsTrue (list_any is_wall row) in
    All-cons P (trimmed (shown_row x r 0 row)) (map trimmed (shown_from x (r + 1) rows))
    (subst IsTrue (sym (walls-trimmed (shown_row x r 0 row) ∙ walls-shown_row x r 0 row)) (All-head P row rows walls))
    (walls-shown x (r + 1) rows (All-tail P row rows walls))

-- where one is seen, one is counted
one_seen : (rows : Rows) (man : Spot) → ((s : Spot) → holds is_man rows s ≡ same_spot man s) → count_in is_man rows ≡ 1
one_seen rows man seen =
    let there : holds is_man rows man ≡ true = seen man ∙ same_spot-refl man in
    let within = IsWithin-from_holds is_man rows man there in
    let none : (s : Spot) → holds is_man (with_cell rows man Floor) s ≡ false = λ s. holds-with_cell is_man rows man s Floor within ∙ elim
    (cases_Bool (same_spot man s)) [
      | inl here ↦ ap (λ b. if b then false else holds is_man rows s) here
      | inr apart ↦ ap (λ b. if b then false else holds is_man rows s) apart ∙ seen s ∙ apart
    ] in
    let one = ap {B = ℕ} (λ b. if b then 1 else 0) there in
    omega (arith, count_in-with_cell is_man rows man Floor within, count_in-none is_man (with_cell rows man Floor) none, one)

-- what is known of a position to which legal letters lead
record Reached (rows : Rows) (x : Position) : Type 0 where
  opened : HasOpenBoxes rows x
  standing : IsStanding rows x
  boxed : HasBox x

reached : (rows : Rows) (letters : List Dir) (x : Position) → IsProper rows → run rows (start rows) letters ≡ Some x → Reached rows x
reached rows letters x proper ran = record {
  opened = HasOpenBoxes-run rows letters (start rows) x (HasOpenBoxes-start rows) ran;
  standing = IsStanding-run rows letters (start rows) x (IsStanding-start rows proper) ran;
  boxed = kept-run rows HasBox (HasBox-step rows) letters (start rows) x (HasBox-start rows proper) ran;
}

IsProper-rows_at : (rows : Rows) (x : Position) → IsProper rows → Reached rows x → IsProper (rows_at rows x)
IsProper-rows_at rows x proper has =
    let (s, boxed) = has.boxed in
    let counted = count_in-holds is_box (rows_at rows x) s (box_shows rows x has.opened s ∙ boxed) in
    record {
      few_rows = omega (arith, proper.few_rows, length-map (shown_from x 0 rows) trimmed, length-shown_from x 0 rows);
      few_columns = few_columns-shown x 0 rows proper.few_columns;
      walls = walls-shown x 0 rows proper.walls;
      one_man = one_seen (rows_at rows x) x.man (man_shows rows x has.standing);
      some_box = list_any-counted is_box (rows_at rows x) counted;
    }

pub proper_after : (rows : Rows) (letters : List Dir) (x : Position) → IsProper rows → run rows (start rows) letters ≡ Some x → IsProper (rows_at rows x)
proper_after rows letters x proper ran = IsProper-rows_at rows x proper (reached rows letters x proper ran)

pub drawings-stand : DrawingsStand
drawings-stand rows letters x level ran =
    let has = reached rows letters x level.proper ran in
    let now : IsLevel (rows_at rows x) = record {
      proper = IsProper-rows_at rows x level.proper has;
      trimmed = all_trimmed (shown_from x 0 rows);
    } in
    let boxes = λ (s : Spot). box_shows rows x has.opened s in (
      texts-are-one-level (rows_at rows x) now,
      record {
        level = now;
        starts = start-scene (rows_at rows x) x.man (man_shows rows x has.standing) ∙ (λ i. record { man = x.man; boxes = λ s. boxes s i });
        walls = wall_shows rows x;
        goals = goal_shows rows x;
      },
    )

-- Rows without a fault are those of a proper level.
use Rattle.std.proofs.Common.{ℕ, ◌≡◌, ◌≤◌, ◌<◌, ◌*◌, refl, sym, ap, ◌∙◌, inl, inr, List, [], ◌∷◌, length, get_or, Bool, true}
use Rattle.std.proofs.Common.{false, true≢false, not, Option, Some, None, Result, Ok, Err, map, if◌then◌else◌, nat_lt, All}
use Rattle.std.proofs.Common.{position, count_by, sum_by, option_map, ◌==◌, arith}
use Rattle.std.proofs.lemmas.Bool.{cases_Bool}
use Rattle.std.proofs.lemmas.Bool.Decides.{nat_tests}
use Rattle.std.proofs.lemmas.Option.{none-some}
use Rattle.std.proofs.lemmas.List.{length-map}
use Rattle.std.proofs.lemmas.List.Folds.{list_any_at, list_any_none}
use Rattle.std.proofs.lemmas.List.Sums.{fails_before_first, passes_at_first, sum_by-le, count_by-le-length}
use Rattle.std.specs.List.{list_any, position_or_len}
use Rattle.std.specs.Option.{option_or}
use Rattle.sok_rules.specs.Limits.{size_limit}
use Rattle.sok_rules.specs.declared.cell.Cell.{Cell}
use Rattle.sok_rules.specs.declared.fault.LevelFault.{LevelFault}
use Rattle.sok_rules.specs.declared.fault.LevelFault.TheVariants.{TooWide, TooTall, NoPlayer, ManyPlayers, NoBox, NoSuchLevel, NoWall}
use Rattle.sok_rules.specs.Squares.{Rows, is_box, is_man, is_wall}
use Rattle.sok_rules.specs.Levels.{IsLevel, IsProper, fault_of, count_in, level_of, row_without_wall, trimmed}

-- a test that none passes fails at each element
pub fails_at_each : {X : Type 0} (test : X → Bool) (xs : List X) → list_any test xs ≡ false → (k : ℕ) (d : X) → k < length xs → test (get_or xs k d) ≡ false
fails_at_each test xs none k d within = elim (cases_Bool (test (get_or xs k d))) [
  | inl passes ↦ absurd (true≢false (sym (list_any_at test xs k d within passes) ∙ none))
  | inr fails ↦ fails
]

pub position-none : {X : Type 0} (test : X → Bool) (xs : List X) → position test xs ≡ None → (k : ℕ) (d : X) → k < length xs → test (get_or xs k d) ≡ false
position-none test xs none k d within = elim (cases_Bool (nat_lt (position_or_len test xs) (length xs))) [
  | inl found ↦ absurd (none-some _ (sym none ∙ ap (λ b. if b then Some (position_or_len test xs) else None) found))
  | inr past ↦ fails_before_first test xs k d (grind (arith, nat_tests))
]

pub none-position : {X : Type 0} (test : X → Bool) (xs : List X) → ((k : ℕ) (d : X) → k < length xs → test (get_or xs k d) ≡ false) → position test xs ≡ None
none-position test [] fails = refl
none-position test (x ∷ xs) fails = elim (cases_Bool (nat_lt (position_or_len test (x ∷ xs)) (length (x ∷ xs)))) [
  | inl found ↦
      let within : position_or_len test (x ∷ xs) < length (x ∷ xs) = grind (arith, nat_tests) in
      absurd (true≢false (sym (passes_at_first test (x ∷ xs) x within) ∙ fails _ x within))
  | inr past ↦ ap (λ b. if b then Some (position_or_len test (x ∷ xs)) else None) past
]

not_false : (b : Bool) → not b ≡ false → b ≡ true
not_false true e = refl
not_false false e = absurd (true≢false e)

-- the first fault, by what is found of each cause
abbrev pub first_fault : Bool → Bool → Option ℕ → ℕ → Bool → Option LevelFault
first_fault tall wide unwalled men has_box =
    if tall then Some TooTall
    else if wide then Some TooWide
    else option_or (option_map (λ row. NoWall row) unwalled) (
    if men == 0 then Some NoPlayer else if nat_lt 1 men then Some ManyPlayers else if has_box then None else Some NoBox
    )

record HasNoFault (tall wide : Bool) (unwalled : Option ℕ) (men : ℕ) (has_box : Bool) : Type 0 where
  not_tall : tall ≡ false
  not_wide : wide ≡ false
  walled : unwalled ≡ None
  one_man : men ≡ 1
  boxed : has_box ≡ true

HasNoFault-from_none : (tall wide : Bool) (unwalled : Option ℕ) (men : ℕ) (has_box : Bool) → first_fault tall wide unwalled men has_box ≡ None
    → HasNoFault tall wide unwalled men has_box
HasNoFault-from_none true wide unwalled men has_box none = absurd (none-some _ (sym none))
HasNoFault-from_none false true unwalled men has_box none = absurd (none-some _ (sym none))
HasNoFault-from_none false false (Some r) men has_box none = absurd (none-some _ (sym none))
HasNoFault-from_none false false None men true none =
    record { not_tall = refl; not_wide = refl; walled = refl; one_man = grind (arith, nat_tests, none-some); boxed = refl }
HasNoFault-from_none false false None men false none = absurd (grind (arith, nat_tests, none-some))

-- rows without a fault are a level's
pub IsProper-from_none : (rows : Rows) → fault_of rows ≡ None → IsProper rows
unfolding fault_of
IsProper-from_none rows none =
    let clean = HasNoFault-from_none _ (list_any (λ row. nat_lt size_limit (length row)) rows) (position (λ row. not (list_any is_wall row)) rows)
    (count_in is_man rows) _ none in
    let not_tall : nat_lt size_limit (length rows) ≡ false = clean.not_tall in
    record {
      few_rows = grind (arith, nat_tests);
      few_columns = λ k d within. let short = fails_at_each (λ row. nat_lt size_limit (length row)) rows clean.not_wide k d within in grind (arith, nat_tests);
      walls = λ k d within. not_false _ (position-none (λ row. not (list_any is_wall row)) rows clean.walled k d within);
      one_man = clean.one_man;
      some_box = clean.boxed;
    }

pub none-from_IsProper : (rows : Rows) → IsProper rows → fault_of rows ≡ None
unfolding fault_of
none-from_IsProper rows proper =
    let few_rows : length rows ≤ size_limit = proper.few_rows in
    let not_tall : nat_lt size_limit (length rows) ≡ false = grind (arith, nat_tests) in
    let not_wide = list_any_none (λ row. nat_lt size_limit (length row)) rows (λ k d within. let short : length (get_or rows k d) ≤ size_limit =
    proper.few_columns k d within in grind (arith, nat_tests)) in
    let walled = none-position (λ row. not (list_any is_wall row)) rows (λ k d within. ap not (proper.walls k d within)) in
    λ i. first_fault (not_tall i) (not_wide i) (walled i) (proper.one_man i) (proper.some_box i)

-- few rows of few cells have few of a kind
pub count_by-few : {R : Type 0} (cells : R → List Cell) (test : Cell → Bool) (rows : List R) → length rows ≤ size_limit → All (λ row. length (cells row) ≤ size_limit) rows
    → sum_by (λ row. count_by test (cells row)) rows ≤ size_limit * size_limit
count_by-few cells test rows few short =
    omega (
      arith,
      sum_by-le (λ row. count_by test (cells row)) size_limit rows
          (λ k d within. omega (arith, count_by-le-length test (cells (get_or rows k d)), short k d within)),
    )

-- few rows, none of them long
pub count_by-fits : {R : Type 0} (cells : R → List Cell) (test : Cell → Bool) (rows : List R) → length rows ≤ size_limit
    → list_any (λ row. nat_lt size_limit (length (cells row))) rows ≡ false
    → sum_by (λ row. count_by test (cells row)) rows ≤ size_limit * size_limit
count_by-fits cells test rows few none_long = count_by-few cells test rows few (λ k d within.
    let short = fails_at_each (λ row. nat_lt size_limit (length (cells row))) rows none_long k d within in grind (arith, nat_tests))

-- what rows are read as, by the fault that they have without floor at their ends
pub level_of-none : (rows : Rows) → fault_of (map trimmed rows) ≡ None → level_of rows ≡ Ok (map trimmed rows)
unfolding level_of
level_of-none rows none = ap (λ o. elim o as (λ _. Result Rows LevelFault) [ None ↦ Ok (map trimmed rows) | Some fault ↦ Err fault ]) none

pub level_of-some : (rows : Rows) (fault : LevelFault) → fault_of (map trimmed rows) ≡ Some fault → level_of rows ≡ Err fault
unfolding level_of
level_of-some rows fault some = ap (λ o. elim o as (λ _. Result Rows LevelFault) [ None ↦ Ok (map trimmed rows) | Some f ↦ Err f ]) some

-- rows of which there are too many
fault_of-tall : (rows : Rows) → size_limit < length rows → fault_of rows ≡ Some TooTall
unfolding fault_of
fault_of-tall rows tall =
    let so : nat_lt size_limit (length rows) ≡ true = grind (arith, nat_tests) in
    ap (λ b. first_fault b (list_any (λ row. nat_lt size_limit (length row)) rows) (row_without_wall rows) (count_in is_man rows) (list_any (list_any is_box) rows)) so

pub level_of-tall : (rows : Rows) → size_limit < length rows → level_of rows ≡ Err TooTall
level_of-tall rows tall = level_of-some rows TooTall (fault_of-tall (map trimmed rows) (omega (arith, length-map rows trimmed)))

-- a fault of what stands in rows
abbrev fault_of_pieces : Bool → Bool → Bool → Option LevelFault
fault_of_pieces none many has_box = if none then Some NoPlayer else if many then Some ManyPlayers else if has_box then None else Some NoBox

pieces-missing : (none many has_box : Bool) → fault_of_pieces none many has_box ≡ Some NoSuchLevel → ⊥
pieces-missing true many has_box e = cc
pieces-missing false true has_box e = cc
pieces-missing false false true e = cc
pieces-missing false false false e = cc

first-missing : (tall wide : Bool) (unwalled : Option ℕ) (men : ℕ) (has_box : Bool) → first_fault tall wide unwalled men has_box ≡ Some NoSuchLevel → ⊥
first-missing true wide unwalled men has_box e = cc
first-missing false true unwalled men has_box e = cc
first-missing false false (Some r) men has_box e = cc
first-missing false false None men has_box e = pieces-missing (men == 0) (nat_lt 1 men) has_box e

-- the fault of rows that are no level
fault-from_level_of : (rows : Rows) (fault : LevelFault) → level_of rows ≡ Err fault → fault_of (map trimmed rows) ≡ Some fault
unfolding level_of
fault-from_level_of rows fault =
    elim (fault_of (map trimmed rows)) as (λ o. elim o as (λ _. Result Rows LevelFault) [ None ↦ Ok (map trimmed rows) | Some f ↦ Err f ] ≡ Err fault
    → o ≡ Some fault) [
      | None ↦ λ e. absurd cc
      | Some f ↦ λ e. let same : f ≡ fault = cc in ap Some same
    ]

-- rows are never refused as a level that is missing
pub level_of-missing : (rows : Rows) → level_of rows ≡ Err NoSuchLevel → ⊥
unfolding fault_of
level_of-missing rows e =
    let clean = map trimmed rows in
    first-missing (nat_lt size_limit (length clean)) (list_any (λ row. nat_lt size_limit (length row)) clean) (row_without_wall clean) (count_in is_man clean)
    (list_any (list_any is_box) clean) (fault-from_level_of rows NoSuchLevel e)

-- a level is read as it is
pub level_of-IsLevel : (rows : Rows) → IsLevel rows → level_of rows ≡ Ok rows
level_of-IsLevel rows level =
    level_of-none rows (ap fault_of level.trimmed ∙ none-from_IsProper rows level.proper) ∙ ap Ok level.trimmed

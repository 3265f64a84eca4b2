-- Runs of lists that are joined, and what every run keeps.
use Rattle.std.proofs.Common.{ℕ, ◌≡◌, ◌<◌, ◌≤◌, ◌+◌, refl, ap, ◌∙◌, subst, List, [], ◌∷◌, ◌++◌, Some, None, IsSomeAnd, Bool, true}
use Rattle.std.proofs.Common.{false, length, take, get_or, arith}
use Rattle.std.proofs.lemmas.List.{take_more}
use Rattle.std.proofs.lemmas.Option.{same_Some, none-some, option_and_then_some}
use Rattle.std.specs.Option.{option_and_then, option_map_or}
use Rattle.sok_rules.specs.declared.cell.Cell.{Cell}
use Rattle.sok_rules.specs.declared.cell.Cell.TheVariants.{Wall, Floor, Goal, BoxOff, BoxOn, ManOff, ManOn}
use Rattle.sok_rules.specs.declared.cell.Dir.{Dir}
use Rattle.sok_rules.specs.Squares.{Rows, cell_at, holds, is_box, is_open}
use Rattle.sok_rules.specs.declared.cell.Spot.{Spot}
use Rattle.sok_rules.specs.Play.{After, AllOnGoals, Position, SolvesFrom, one_if, pushes, run, start, step}
use Rattle.sok_rules.proofs.Steps.{HasOpenBoxes, HasOpenBoxes-step, IsStanding, IsStanding-step}

pub run-append : (rows : Rows) (w v : List Dir) (x : Position) → run rows x (w ++ v) ≡ option_and_then (λ y. run rows y v) (run rows x w)
run-append rows [] v x = refl
run-append rows (d ∷ w) v x = elim (step rows d x) as
    (λ o. option_and_then (λ after. run rows after.position (w ++ v)) o
    ≡ option_and_then (λ y. run rows y v) (option_and_then (λ after. run rows after.position w) o)) [
      | None ↦ refl
      | Some a ↦ run-append rows w v a.position
    ]

pub pushes-append : (rows : Rows) (w v : List Dir) (x y : Position) → run rows x w ≡ Some y → pushes rows x (w ++ v) ≡ pushes rows x w + pushes rows y v
pushes-append rows [] v x y = λ e. ap (λ p. pushes rows p v) (same_Some x y e) ∙ omega arith
pushes-append rows (d ∷ w) v x y = elim (step rows d x) as (λ o. option_and_then (λ after. run rows after.position w) o ≡ Some y
    → option_map_or (λ after. one_if after.pushed + pushes rows after.position (w ++ v)) o 0
    ≡ option_map_or (λ after. one_if after.pushed + pushes rows after.position w) o 0 + pushes rows y v) [
      | None ↦ λ e. absurd (none-some y e)
      | Some a ↦ λ e. let rest = pushes-append rows w v a.position y e in omega (arith, rest)
    ]

one_if-le : (b : Bool) → one_if b ≤ 1
one_if-le true = omega arith
one_if-le false = omega arith

-- one more letter of a list
pub run-take_more : (rows : Rows) (x y : Position) (w : List Dir) (at : ℕ) (other : Dir) → at < length w → run rows x (take at w) ≡ Some y
    → run rows x (take (at + 1) w) ≡ option_and_then (λ after. Some after.position) (step rows (get_or w at other) y)
run-take_more rows x y w at other within so_far =
    ap (run rows x) (take_more w at other within) ∙ run-append rows (take at w) (get_or w at other ∷ []) x
    ∙ ap (option_and_then (λ z. run rows z (get_or w at other ∷ []))) so_far

pub pushes-take_more : (rows : Rows) (x y : Position) (w : List Dir) (at : ℕ) (other : Dir) (a : After) → at < length w → run rows x (take at w) ≡ Some y
    → step rows (get_or w at other) y ≡ Some a → pushes rows x (take (at + 1) w) ≡ pushes rows x (take at w) + one_if a.pushed
pushes-take_more rows x y w at other a within so_far leads =
    let d = get_or w at other in
    let one : pushes rows y (d ∷ []) ≡ one_if a.pushed + 0 = ap (λ o. option_map_or (λ (after : After). one_if after.pushed + 0) o 0) leads in
    ap (pushes rows x) (take_more w at other within) ∙ pushes-append rows (take at w) (d ∷ []) x y so_far ∙ omega (arith, one)

-- what each legal letter keeps, a legal list keeps
pub kept-run : (rows : Rows) (Kept : Position → Type 0) → ((d : Dir) (x : Position) (a : After) → Kept x → step rows d x ≡ Some a → Kept a.position)
    → (w : List Dir) (x y : Position) → Kept x → run rows x w ≡ Some y → Kept y
kept-run rows Kept keeps [] x y kept e = subst Kept (same_Some x y e) kept
kept-run rows Kept keeps (d ∷ w) x y kept e = option_and_then_some (λ after. run rows after.position w) (step rows d x) y e (λ a steps rest.
    kept-run rows Kept keeps w a.position y (keeps d x a kept steps) rest)

pub IsStanding-run : (rows : Rows) (w : List Dir) (x y : Position) → IsStanding rows x → run rows x w ≡ Some y → IsStanding rows y
IsStanding-run rows w x y standing e = kept-run rows (IsStanding rows) (λ d z a _ steps. IsStanding-step rows d z a steps) w x y standing e

pub HasOpenBoxes-run : (rows : Rows) (w : List Dir) (x y : Position) → HasOpenBoxes rows x → run rows x w ≡ Some y → HasOpenBoxes rows y
HasOpenBoxes-run rows w x y opened e = kept-run rows (HasOpenBoxes rows) (HasOpenBoxes-step rows) w x y opened e

box_is_open : (cell : Cell) → is_box cell ≡ true → is_open cell ≡ true
box_is_open Wall e = e
box_is_open Floor e = refl
box_is_open Goal e = refl
box_is_open BoxOff e = refl
box_is_open BoxOn e = refl
box_is_open ManOff e = refl
box_is_open ManOn e = refl

pub HasOpenBoxes-start : (rows : Rows) → HasOpenBoxes rows (start rows)
unfolding start holds
HasOpenBoxes-start rows = λ s. elim (cell_at rows s) as (λ o. option_map_or is_box o false ≡ true
    → option_map_or is_open o false ≡ true) [ None ↦ λ e. e | Some cell ↦ box_is_open cell ]

-- a list that solves and is not empty begins with a letter that is legal, and goes on to solve
pub solves_on : {C : Type 0} (rows : Rows) (d : Dir) (w : List Dir) (x : Position) → SolvesFrom rows x (d ∷ w)
    → ((a : After) → step rows d x ≡ Some a → SolvesFrom rows a.position w → C) → C
solves_on {C} rows d w x = elim (step rows d x) as (λ o. IsSomeAnd (option_and_then (λ (after : After). run rows after.position w) o) (AllOnGoals rows)
    → ((a : After) → o ≡ Some a → SolvesFrom rows a.position w → C) → C) [
      | None ↦ λ none _. absurd none
      | Some a ↦ λ solves on. on a refl solves
    ]

-- the boxes of the start
pub boxes-start : (rows : Rows) (s : Spot) → (start rows).boxes s ≡ holds is_box rows s
unfolding start
boxes-start rows s = refl

-- no more pushes than letters
pub pushes-le-length : (rows : Rows) (w : List Dir) (x : Position) → pushes rows x w ≤ length w
pushes-le-length rows [] x = omega arith
pushes-le-length rows (d ∷ w) x = elim (step rows d x) as
    (λ o. option_map_or (λ after. one_if after.pushed + pushes rows after.position w) o 0 ≤ length (d ∷ w)) [
      | None ↦ omega arith
      | Some a ↦ let rest = pushes-le-length rows w a.position in let one = one_if-le a.pushed in omega (arith, rest, one)
    ]

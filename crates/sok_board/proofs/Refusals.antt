-- The first square of a cause, and no square of a cause.
use Rattle.std.proofs.Common.{ℕ, ◌≡◌, ◌<◌, ◌≤◌, inl, inr, sym, ap, ◌∙◌, subst, List, [], ◌∷◌, true, false, true≢false, All, AllPairs, Contains, arith, length}
use Rattle.std.proofs.Common.{get_or, take, not, nat_lt}
use Rattle.std.proofs.lemmas.Bool.{cases_Bool}
use Rattle.std.proofs.lemmas.Bool.Decides.{nat_tests}
use Rattle.std.proofs.lemmas.List.{length-take-le, get_or-take, take_all, get_or_default}
use Rattle.std.proofs.lemmas.List.Elements.{All-contains}
use Rattle.std.proofs.lemmas.List.Folds.{list_any_at}
use Rattle.sok_rules.specs.declared.cell.Dir.{Dir}
use Rattle.sok_rules.specs.declared.cell.Dir.TheVariants.{Left, Up, Right, Down}
use Rattle.sok_rules.specs.declared.cell.Spot.{Spot}
use Rattle.sok_rules.specs.Squares.{Rows, is_box, places}
use Rattle.sok_board.specs.Area.{InArea, IsArea, IsEnclosed, IsStray, Before}
use Rattle.sok_board.specs.Refusals.{lies_beside, has_gap, IsFirst, IsLeak}
use Rattle.sok_rules.proofs.Grid.{cell-from_holds}
use Rattle.sok_rules.proofs.ReadingOrder.{Contains-places}
use Rattle.sok_board.proofs.ReadingOrder.{in_order-places}

pub before_asym : (a b : Spot) → Before a b → Before b a → ⊥
before_asym a b (inl up) (inl down) = omega (arith, up, down)
before_asym a b (inl up) (inr (row, _)) = omega (arith, up, row)
before_asym a b (inr (row, _)) (inl down) = omega (arith, row, down)
before_asym a b (inr (_, left)) (inr (_, right)) = omega (arith, left, right)

Contains-take : {X : Type 0} (xs : List X) (i k : ℕ) (x : X) → k < i → i ≤ length xs → get_or xs k x ≡ x → Contains (take i xs) x
Contains-take xs i k x below within is = (k, omega (arith, below, length-take-le i xs within), get_or-take i xs k x below ∙ is)

-- the first of a list in reading order that has all squares with a property
pub first_in : (P : Spot → Type 0) (xs : List Spot) (i : ℕ) (x : Spot) → AllPairs Before xs → i < length xs → get_or xs i x ≡ x
    → ((t : Spot) → P t → Contains xs t) → ((t : Spot) → Contains (take i xs) t → P t → ⊥) → P x → IsFirst P x
first_in P xs i x in_order inside is among none here = (
  here,
  λ t there earlier.
      let (k, within, at) = among t there in
      elim (cases_Bool (nat_lt k i)) [
        | inl below ↦ none t (Contains-take xs i k t (grind (arith, nat_tests)) (omega (arith, inside)) at) there
        | inr not_below ↦ elim (cases_Bool (nat_lt i k)) [
          | inl above ↦
              let ordered = in_order i k x (grind (arith, nat_tests)) within in
              before_asym x t (subst (λ s. Before s t) is (subst (Before (get_or xs i x)) (get_or_default xs k x t within ∙ at) ordered)) earlier
          | inr not_above ↦
              let same : k ≡ i = grind (arith, nat_tests) in
              let itself : t ≡ x = sym at ∙ ap (λ n. get_or xs n t) same ∙ get_or_default xs i t x inside ∙ is in
              before_asym x x (subst (λ s. Before s x) itself earlier) (subst (λ s. Before s x) itself earlier)
        ]
      ],
)

gap_at : (rows : Rows) (s : Spot) (d : Dir) → lies_beside rows s d ≡ false → has_gap rows s ≡ true
unfolding has_gap
gap_at rows s Left gap = list_any_at (λ d. not (lies_beside rows s d)) (Left ∷ Up ∷ Right ∷ Down ∷ []) 0 Left (omega arith) (ap not gap)
gap_at rows s Up gap = list_any_at (λ d. not (lies_beside rows s d)) (Left ∷ Up ∷ Right ∷ Down ∷ []) 1 Left (omega arith) (ap not gap)
gap_at rows s Right gap = list_any_at (λ d. not (lies_beside rows s d)) (Left ∷ Up ∷ Right ∷ Down ∷ []) 2 Left (omega arith) (ap not gap)
gap_at rows s Down gap = list_any_at (λ d. not (lies_beside rows s d)) (Left ∷ Up ∷ Right ∷ Down ∷ []) 3 Left (omega arith) (ap not gap)

-- a square without a gap has its neighbours in some row
pub no_gap : (rows : Rows) (s : Spot) → has_gap rows s ≡ false → (d : Dir) → lies_beside rows s d ≡ true
no_gap rows s none d = elim (cases_Bool (lies_beside rows s d)) [
  | inl lies ↦ lies
  | inr gap ↦ absurd (true≢false (sym (gap_at rows s d gap) ∙ none))
]

pub first_leak-some : (rows : Rows) (squares : List Spot) (i : ℕ) (x : Spot) → IsArea rows squares → i < length squares → get_or squares i x ≡ x
    → All (λ s. has_gap rows s ≡ false) (take i squares) → has_gap rows x ≡ true → IsFirst (IsLeak rows) x
first_leak-some rows squares i x area inside is so_far gap =
    first_in (IsLeak rows) squares i x area.in_order inside is (λ t leak. area.whole t leak.0)
    (λ t among leak. true≢false (sym leak.1 ∙ All-contains (λ s. has_gap rows s ≡ false) (take i squares) t so_far among))
    (subst (InArea rows) is (area.inside i x inside), gap)

pub first_leak-none : (rows : Rows) (squares : List Spot) (i : ℕ) → IsArea rows squares → length squares ≤ i
    → All (λ s. has_gap rows s ≡ false) (take i squares) → IsEnclosed rows
first_leak-none rows squares i area past all = λ s d inside.
    no_gap rows s (All-contains (λ s. has_gap rows s ≡ false) squares s (subst (All (λ s. has_gap rows s ≡ false)) (take_all i squares past) all)
    (area.whole s inside)) d

box_among : (rows : Rows) (s : Spot) → IsStray rows s → Contains (places rows) s
box_among rows s stray = let (cell, at, _) = cell-from_holds is_box rows s stray.0 in Contains-places rows s cell at

-- a list of a level's places in which there was no stray box so far
abbrev pub HasNoStray : Rows → List Spot → Type 0
HasNoStray rows squares = All (λ s. IsStray rows s → ⊥) squares

pub first_stray-some : (rows : Rows) (i : ℕ) (x : Spot) → i < length (places rows) → get_or (places rows) i x ≡ x
    → HasNoStray rows (take i (places rows)) → IsStray rows x → IsFirst (IsStray rows) x
first_stray-some rows i x within is so_far stray =
    first_in (IsStray rows) (places rows) i x (in_order-places rows) within is (box_among rows)
    (λ t among. All-contains (λ s. IsStray rows s → ⊥) (take i (places rows)) t so_far among) stray

pub first_stray-none : (rows : Rows) (i : ℕ) → length (places rows) ≤ i → HasNoStray rows (take i (places rows)) → (s : Spot) → IsStray rows s → ⊥
first_stray-none rows i past all s stray =
    All-contains (λ s. IsStray rows s → ⊥) (places rows) s (subst (HasNoStray rows) (take_all i (places rows) past) all) (box_among rows s stray) stray

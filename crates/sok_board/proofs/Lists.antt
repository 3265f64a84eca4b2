-- Lists: what is listed, pairs over an append, lists in order, and what a filter keeps.
use Rattle.std.proofs.Common.{◌≡◌, ◌⊎◌, inl, inr, sym, ap, subst, ◌∙◌, refl, ℕ, List, Some, length, slice_get, [], ◌∷◌, ◌++◌, Bool, true, false, All, AllPairs}
use Rattle.std.proofs.Common.{Contains, arith, filter, cond, zero, suc}
use Rattle.std.proofs.lemmas.List.Kept.{AllPairs-cons}
use Rattle.std.proofs.lemmas.List.Elements.{All-append, All-tail, All-head, All-contains, All-contains_itself, All-filter, filter_passes}
use Rattle.std.proofs.lemmas.List.{get_or_append_left, get_or_push, length-append}
use Rattle.std.proofs.lemmas.Bool.{cases_lt}
use Rattle.std.proofs.lemmas.Option.{same_Some, slice_get_within, slice_get-get_or, get_or_from_slice_get}

pub AllPairs-head : {X : Type 0} (R : X → X → Type 0) (x : X) (xs : List X) → AllPairs R (x ∷ xs) → All (R x) xs
AllPairs-head R x xs pairs = λ k d within. pairs 0 (suc k) d (omega arith) (omega (arith, within))

pub AllPairs-tail : {X : Type 0} (R : X → X → Type 0) (x : X) (xs : List X) → AllPairs R (x ∷ xs) → AllPairs R xs
AllPairs-tail R x xs pairs = λ i j d below within. pairs (suc i) (suc j) d (omega (arith, below)) (omega (arith, within))

pub AllPairs-append : {X : Type 0} (R : X → X → Type 0) (xs ys : List X) → AllPairs R xs → AllPairs R ys → All (λ x. All (R x) ys) xs → AllPairs R (xs ++ ys)
AllPairs-append R [] ys first second across = second
AllPairs-append {X} R (x ∷ xs) ys first second across =
    AllPairs-cons R x (xs ++ ys) (All-append (R x) xs ys (AllPairs-head R x xs first) (All-head (λ (a : X). All (R a) ys) x xs across))
    (AllPairs-append R xs ys (AllPairs-tail R x xs first) second (All-tail (λ (a : X). All (R a) ys) x xs across))

-- what stands at a place is listed
pub Contains-at : {X : Type 0} (xs : List X) (x : X) (i : ℕ) → slice_get xs i ≡ Some x → Contains xs x
Contains-at xs x i at = (i, slice_get_within xs i x at, get_or_from_slice_get xs i x x at)

-- what holds of all holds of what stands at a place
pub All-at : {X : Type 0} (P : X → Type 0) (xs : List X) → All P xs → (i : ℕ) (x : X) → slice_get xs i ≡ Some x → P x
All-at P xs all i x there = All-contains P xs x all (Contains-at xs x i there)

-- the last element stands behind the others
pub slice_get-push : {X : Type 0} (xs : List X) (x : X) → slice_get (xs ++ x ∷ []) (length xs) ≡ Some x
slice_get-push xs x =
    let longer = length-append xs (x ∷ []) in
    slice_get-get_or (xs ++ x ∷ []) (length xs) x (omega (arith, longer)) ∙ ap Some (get_or_push xs x x (length xs) refl)

-- the elements of a longer list
pub slice_get-append : {X : Type 0} (xs ys : List X) (k : ℕ) (x : X) → slice_get xs k ≡ Some x → slice_get (xs ++ ys) k ≡ Some x
slice_get-append xs ys k x at =
    let within = slice_get_within xs k x at in
    let longer = length-append xs ys in
    slice_get-get_or (xs ++ ys) k x (omega (arith, within, longer)) ∙ ap Some (get_or_append_left xs ys x k within ∙ get_or_from_slice_get xs k x x at)

-- an element of a list with one more at its end
pub slice_get-push_cases : {X : Type 0} (xs : List X) (x : X) (k : ℕ) (y : X) → slice_get (xs ++ x ∷ []) k ≡ Some y
    → (slice_get xs k ≡ Some y) ⊎ ((k ≡ length xs) × (x ≡ y))
slice_get-push_cases xs x k y at =
    let within = slice_get_within (xs ++ x ∷ []) k y at in
    let longer = length-append xs (x ∷ []) in
    elim (cases_lt k (length xs)) [
      | inl below ↦ inl (slice_get-get_or xs k y below ∙ ap Some (sym (get_or_append_left xs (x ∷ []) y k below) ∙ get_or_from_slice_get (xs ++ x ∷ []) k y
          y at))
      | inr past ↦
          let last : k ≡ length xs = omega (arith, within, longer, past) in
          inr (last, same_Some x y (sym (slice_get-push xs x) ∙ ap (slice_get (xs ++ x ∷ [])) (sym last) ∙ at))
    ]

-- what holds of each element, and of one more, at its place
pub each-push : {X : Type 0} (P : ℕ → X → Type 0) (xs : List X) (x : X) → ((k : ℕ) (y : X) → slice_get xs k ≡ Some y → P k y) → P (length xs) x → (k : ℕ)
    → (y : X) → slice_get (xs ++ x ∷ []) k ≡ Some y → P k y
each-push P xs x each last k y at = elim (slice_get-push_cases xs x k y at) [
  | inl before ↦ each k y before
  | inr (is, same) ↦ subst (P k) same (subst (λ n. P n x) (sym is) last)
]

pub Contains-cons : {X : Type 0} (x y : X) (xs : List X) → Contains xs y → Contains (x ∷ xs) y
Contains-cons x y xs (k, within, is) = (suc k, omega (arith, within), is)

pub Contains-cons_cases : {X : Type 0} (x y : X) (xs : List X) → Contains (x ∷ xs) y → (x ≡ y) ⊎ Contains xs y
Contains-cons_cases x y xs (zero, within, is) = inl is
Contains-cons_cases x y xs (suc k, within, is) = inr (k, omega (arith, within), is)

-- lists in an order that does not turn round, with the same elements, are the same: so are their heads
same_heads : {X : Type 0} (R : X → X → Type 0) → ((x y : X) → R x y → R y x → ⊥) → (x y : X) (xs ys : List X) → All (R x) xs → All (R y) ys
    → Contains (y ∷ ys) x → Contains (x ∷ xs) y → x ≡ y
same_heads R asym x y xs ys after_x after_y (zero, _, is) there = sym is
same_heads R asym x y xs ys after_x after_y (suc j, _, _) (zero, _, is) = is
same_heads R asym x y xs ys after_x after_y (suc j, far, is) (suc k, there, same) =
    absurd (asym x y (subst (R x) same (after_x k y (omega (arith, there)))) (subst (R y) is (after_y j x (omega (arith, far)))))

-- an element after the first is not the first
among_rest : {X : Type 0} (R : X → X → Type 0) → ((x y : X) → R x y → R y x → ⊥) → (x y s : X) (xs ys : List X) → x ≡ y → All (R x) xs → Contains xs s
    → Contains (y ∷ ys) s → Contains ys s
among_rest R asym x y s xs ys same after_x (k, within, there) (zero, _, is) =
    let itself : R s s = subst (λ t. R t s) (same ∙ is) (subst (R x) there (after_x k s within)) in
    absurd (asym s s itself itself)
among_rest R asym x y s xs ys same after_x among (suc j, far, is) = (j, omega (arith, far), is)

pub same_ordered : {X : Type 0} (R : X → X → Type 0) → ((x y : X) → R x y → R y x → ⊥) → (xs ys : List X) → AllPairs R xs → AllPairs R ys
    → ((s : X) → Contains xs s → Contains ys s) → ((s : X) → Contains ys s → Contains xs s) → xs ≡ ys
same_ordered R asym [] [] ordered_xs ordered_ys to from = refl
same_ordered R asym [] (y ∷ ys) ordered_xs ordered_ys to from = absurd (let past = (from y (0, omega arith, refl)).1 in omega (arith, past))
same_ordered R asym (x ∷ xs) [] ordered_xs ordered_ys to from = absurd (let past = (to x (0, omega arith, refl)).1 in omega (arith, past))
same_ordered R asym (x ∷ xs) (y ∷ ys) ordered_xs ordered_ys to from =
    let after_x = AllPairs-head R x xs ordered_xs in
    let after_y = AllPairs-head R y ys ordered_ys in
    let same : x ≡ y = same_heads R asym x y xs ys after_x after_y (to x (0, omega arith, refl)) (from y (0, omega arith, refl)) in
    let rest : xs ≡ ys = same_ordered R asym xs ys (AllPairs-tail R x xs ordered_xs) (AllPairs-tail R y ys ordered_ys)
    (λ s among. among_rest R asym x y s xs ys same after_x among (to s (Contains-cons x s xs among)))
    (λ s among. among_rest R asym y x s ys xs (sym same) after_y among (from s (Contains-cons y s ys among))) in
    λ i. same i ∷ rest i

-- a filter keeps what passes
pub Contains-filter : {X : Type 0} (p : X → Bool) (xs : List X) (y : X) → Contains xs y → p y ≡ true → Contains (filter p xs) y
Contains-filter p [] y (k, within, is) passes = absurd (omega (arith, within))
Contains-filter p (x ∷ xs) y (zero, within, is) passes =
    let kept : p x ≡ true = ap p is ∙ passes in
    let here : Contains (x ∷ filter p xs) y = (0, omega arith, is) in
    rw kept here
Contains-filter p (x ∷ xs) y (suc k, within, is) passes =
    let rest = Contains-filter p xs y (k, omega (arith, within), is) passes in
    elim (p x) as (λ b. Contains (cond b (x ∷ filter p xs) (filter p xs)) y) [ true ↦ Contains-cons x y (filter p xs) rest | false ↦ rest ]

-- and nothing else
pub Contains-from_filter : {X : Type 0} (p : X → Bool) (xs : List X) (y : X) → Contains (filter p xs) y → Contains xs y × (p y ≡ true)
Contains-from_filter {X} p xs y there = (
  All-contains (Contains xs) (filter p xs) y (All-filter p (Contains xs) xs (All-contains_itself xs)) there,
  All-contains (λ (x : X). p x ≡ true) (filter p xs) y (filter_passes p xs) there,
)

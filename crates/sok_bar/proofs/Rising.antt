-- Numbers that rise, and members of a list by their indices.
use Rattle.std.proofs.Common.{ℕ, zero, suc, ◌≡◌, ◌<◌, ◌≤◌, ◌+◌, inl, inr, refl, sym, ap, ◌∙◌, List, true, true≢false, Some, Result, Ok, Err, All, Contains, add-one, arith, length, get_or}
use Rattle.std.proofs.Common.{slice_get, is_ok, subst}
use Rattle.std.specs.List.Sorted.{IsStrictlyIncreasing, IsBinarySearchResult}
use Rattle.std.specs.Ordering.{nat_cmp}
use Rattle.std.specs.Result.{MatchResult}
use Rattle.std.proofs.lemmas.Bool.{cases_eq, cases_lt}
use Rattle.std.proofs.lemmas.List.{get_or_default}
use Rattle.std.proofs.lemmas.List.Kept.{AllPairs-from_increasing}
use Rattle.std.proofs.lemmas.List.Sorted.{searched}
use Rattle.std.proofs.lemmas.Option.{slice_get_within, slice_get-get_or, get_or_from_slice_get}
use Rattle.sok_board.proofs.Lists.{Contains-at}
use Rattle.sok_price.specs.Prices.{AreMembers, IsMember}

pub at_index : (xs : List ℕ) (i x : ℕ) → i < length xs → get_or xs i 0 ≡ x → slice_get xs i ≡ Some x
at_index xs i x within is = slice_get-get_or xs i 0 within ∙ ap Some is

pub index_of : (xs : List ℕ) (x : ℕ) → Contains xs x → (i : ℕ) × (slice_get xs i ≡ Some x)
index_of xs x (i, within, is) = (i, slice_get-get_or xs i x within ∙ ap Some is)

pub below_later : (xs : List ℕ) (i j : ℕ) → IsStrictlyIncreasing xs → i < j → j < length xs → get_or xs i 0 < get_or xs j 0
below_later xs i j rising before within = AllPairs-from_increasing xs rising i j 0 before within

no_higher : (xs : List ℕ) (i j : ℕ) → IsStrictlyIncreasing xs → i ≤ j → j < length xs → get_or xs i 0 ≤ get_or xs j 0
no_higher xs i j rising before within = elim (cases_lt i j) [
  | inl below ↦ let less = below_later xs i j rising below within in omega (arith, less)
  | inr later ↦ let same : i ≡ j = omega (arith, before, later) in let e = ap (λ k. get_or xs k 0) same in omega (arith, e)
]

-- a number stands once among numbers that rise
pub same_index : (xs : List ℕ) (i j x : ℕ) → IsStrictlyIncreasing xs → slice_get xs i ≡ Some x → slice_get xs j ≡ Some x → i ≡ j
same_index xs i j x rising at_i at_j =
    let here = get_or_from_slice_get xs i x 0 at_i in
    let there = get_or_from_slice_get xs j x 0 at_j in
    elim (cases_eq i j) [
      | inl same ↦ same
      | inr other ↦ elim (cases_lt i j) [
        | inl before ↦ let less = below_later xs i j rising before (slice_get_within xs j x at_j) in absurd (omega (arith, less, here, there))
        | inr after ↦ let less = below_later xs j i rising (omega (arith, after, other)) (slice_get_within xs i x at_i) in
            absurd (omega (arith, less, here, there))
      ]
    ]

-- rising numbers are as many as the last of them says, or fewer
no_less : (xs : List ℕ) → IsStrictlyIncreasing xs → (k : ℕ) → k < length xs → k ≤ get_or xs k 0
no_less xs rising zero within = omega arith
no_less xs rising (suc k) within =
    let before = no_less xs rising k (omega (arith, within)) in
    let more = rising k (omega (arith, within)) in
    let next : get_or xs (suc k) 0 ≡ get_or xs (k + 1) 0 = rw add-one in
    omega (arith, before, more, next)

pub few-rising : (xs : List ℕ) (n : ℕ) → IsStrictlyIncreasing xs → All (λ x. x < n) xs → length xs ≤ n
few-rising xs n rising below = elim (cases_lt n (length xs)) [
  | inl within ↦ let most = no_less xs rising n within in let least = below n 0 within in absurd (omega (arith, most, least))
  | inr short ↦ short
]

-- what a binary search in numbers that rise finds
pub found : (xs : List ℕ) (x : ℕ) (r : Result ℕ ℕ) → IsStrictlyIncreasing xs → IsBinarySearchResult (λ y. nat_cmp y x) xs r
    → MatchResult r (λ i. slice_get xs i ≡ Some x) (λ _. Contains xs x → ⊥)
found xs x r rising result = elim r as (λ q. IsBinarySearchResult (λ y. nat_cmp y x) xs q → MatchResult q (λ i. slice_get xs i ≡ Some x)
    (λ _. Contains xs x → ⊥)) [
      | Ok i ↦ λ at. let (within, is) = searched xs x (Ok i) at (λ k j before inside. no_higher xs k j rising before inside) in at_index xs i x within is
      | Err i ↦ λ at (k, within, is). let (_, below, above) = searched xs x (Err i) at (λ k j before inside. no_higher xs k j rising before inside) in
          let here : get_or xs k 0 ≡ x = sym (get_or_default xs k x 0 within) ∙ is in
          elim (cases_lt k i) [
            | inl before ↦ let less = below k before in omega (arith, less, here)
            | inr after ↦ let less = above k after within in omega (arith, less, here)
          ]
    ] result

-- whether the index of a box is found among the members
pub member_found : (boxes members : List ℕ) (x i : ℕ) (r : Result ℕ ℕ) → IsStrictlyIncreasing boxes → AreMembers boxes members → slice_get boxes i ≡ Some x
    → IsBinarySearchResult (λ y. nat_cmp y i) members r
    → (is_ok r ≡ true → IsMember boxes members x) × (IsMember boxes members x → is_ok r ≡ true)
member_found boxes members x i r rising listed at result =
    elim r as (λ q. MatchResult q (λ k. slice_get members k ≡ Some i) (λ _. Contains members i → ⊥) → (is_ok q ≡ true → IsMember boxes members x) ×
    (IsMember boxes members x → is_ok q ≡ true)) [
      | Ok k ↦ λ there. ((λ _. (i, Contains-at members i k there, at)), λ _. refl)
      | Err _ ↦ λ none. (
        (λ e. absurd (true≢false (sym e))),
        λ (j, one, at_j). absurd
            (none (subst (Contains members) (same_index boxes j i x rising at_j at) one)),
      )
    ] (found members i r listed.rising result)

-- a member stands on one of the boxes' squares
pub Contains-member : (boxes members : List ℕ) (x : ℕ) → IsMember boxes members x → Contains boxes x
Contains-member boxes members x (i, _, at) = Contains-at boxes x i at

-- what holds at each place of the members holds of each member
pub each_member : (P : ℕ → Type 0) (boxes members : List ℕ) → ((k : ℕ) → k < length members → P (get_or boxes (get_or members k 0) 0)) → (s : ℕ)
    → IsMember boxes members s → P s
each_member P boxes members each s (i, (k, within, is), at) =
    let index : get_or members k 0 ≡ i = get_or_default members k 0 i within ∙ is in
    subst P (ap (λ n. get_or boxes n 0) index ∙ get_or_from_slice_get boxes i s 0 at) (each k within)

pub member_at : (boxes members : List ℕ) (k : ℕ) → AreMembers boxes members → k < length members → IsMember boxes members (get_or boxes (get_or members k 0) 0)
member_at boxes members k listed within = (
  get_or members k 0,
  (k, within, get_or_default members k (get_or members k 0) 0 within),
  slice_get-get_or boxes
      (get_or members k 0) 0 (listed.within k 0 within),
)

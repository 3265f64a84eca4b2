-- Sums of prices, and numbers that are apart: by their places, and the places where they stand in a list.
use Rattle.sok_price.proofs.Words.{ℕ, ◌≡◌, ◌≢◌, ◌<◌, ◌≤◌, ◌+◌, refl, sym, ◌∙◌, subst, List, [], ◌∷◌, All, AllPairs, Contains, arith, length, get_or, set, sum}
use Rattle.sok_price.proofs.Words.{sum_by, zero, suc, inl, inr, cases_eq, length-set, get_or-set_same, get_or-set_other, get_or_default, All-head, All-tail}
use Rattle.sok_price.proofs.Words.{sum_by-cons, sum_by-set, sum_by-le, AllPairs-head, AllPairs-tail, length-le_from_distinct_below, IsDistinct-from_AllPairs}
use Rattle.sok_price.proofs.Words.{Contains-from_any, Decides-eqb, ◌++◌, ap, map, IsStrictlyIncreasing, get_or_append_left, get_or_push, get_or-map, length-map}
use Rattle.sok_price.proofs.Words.{length_push, All-from_get_or, AllPairs-cons, AllPairs-from_increasing, All-contains, nat_tests, true, ◌==◌}

-- the prices of some goals, by their indices
abbrev pub prices_of : List ℕ → List ℕ → ℕ
prices_of v goals = sum_by (λ goal. get_or v goal 0) goals

prices_of-same : (v w goals : List ℕ) → All (λ goal. get_or v goal 0 ≡ get_or w goal 0) goals → prices_of v goals ≡ prices_of w goals
prices_of-same v w [] same = refl
prices_of-same v w (goal ∷ goals) same =
    let P = λ (j : ℕ). get_or v j 0 ≡ get_or w j 0 in
    let rest = prices_of-same v w goals (All-tail P goal goals same) in
    let here : get_or v goal 0 ≡ get_or w goal 0 = All-head P goal goals same in
    omega (arith, rest, here, sum_by-cons (λ j. get_or v j 0) goal goals, sum_by-cons (λ j. get_or w j 0) goal goals)

-- the first goal apart, the prices of the others
prices_of-cons : (v : List ℕ) (goal : ℕ) (goals : List ℕ) → All (λ other. goal ≢ other) goals
    → prices_of v (goal ∷ goals) ≡ get_or v goal 0 + prices_of (set v goal 0) goals
prices_of-cons v goal goals apart =
    let rest = prices_of-same v (set v goal 0) goals (λ k d within. sym
    (get_or-set_other v goal (get_or goals k d) 0 0 (λ same. apart k d within (sym same)))) in
    omega (arith, rest, sum_by-cons (λ j. get_or v j 0) goal goals)

within_set : (v goals : List ℕ) (goal : ℕ) → All (λ j. j < length v) goals → All (λ j. j < length (set v goal 0)) goals
within_set v goals goal within = λ k d inside. let here = within k d inside in let long = length-set v goal 0 in omega (arith, here, long)

-- different goals cost no more than all goals
pub prices_of-le : (goals v : List ℕ) → AllPairs ◌≢◌ goals → All (λ j. j < length v) goals → prices_of v goals ≤ sum v
prices_of-le [] v apart within = omega arith
prices_of-le (goal ∷ goals) v apart within =
    let first = prices_of-cons v goal goals (AllPairs-head ◌≢◌ goal goals apart) in
    let inside : goal < length v = All-head (λ j. j < length v) goal goals within in
    let rest = prices_of-le goals (set v goal 0) (AllPairs-tail ◌≢◌ goal goals apart)
    (within_set v goals goal (All-tail (λ j. j < length v) goal goals within)) in
    omega (arith, first, rest, sum_by-set (λ x. x) v goal 0 0 inside)

sum-none : (v : List ℕ) → ((j : ℕ) → j < length v → get_or v j 0 ≡ 0) → sum v ≡ 0
sum-none v none = let bound = sum_by-le (λ x. x) 0 v (λ k d within. let here = none k within in let same = get_or_default v k d 0 within in
    omega (arith, here, same)) in omega (arith, bound)

-- where no other goal has a price, they cost as much
pub prices_of-all : (goals v : List ℕ) → AllPairs ◌≢◌ goals → All (λ j. j < length v) goals
    → ((j : ℕ) → j < length v → (Contains goals j → ⊥) → get_or v j 0 ≡ 0) → prices_of v goals ≡ sum v
prices_of-all [] v apart within others = sym (sum-none v (λ j inside. others j inside (λ (k, below, _). omega (arith, below))))
prices_of-all (goal ∷ goals) v apart within others =
    let first = prices_of-cons v goal goals (AllPairs-head ◌≢◌ goal goals apart) in
    let inside : goal < length v = All-head (λ j. j < length v) goal goals within in
    let none : (j : ℕ) → j < length (set v goal 0) → (Contains goals j → ⊥) → get_or (set v goal 0) j 0 ≡ 0 = λ j below apart'. elim (cases_eq j goal) [
      | inl same ↦ subst (λ (t : ℕ). get_or (set v goal 0) t 0 ≡ 0) (sym same) (get_or-set_same v goal 0 0 inside)
      | inr other ↦
          get_or-set_other v goal j 0 0 other
          ∙ others j (let long = length-set v goal 0 in omega (arith, below, long))
          (λ (k, at, is). elim k as (λ t. t < length (goal ∷ goals) → get_or (goal ∷ goals) t j ≡ j → ⊥) [
            | zero ↦ λ _ same. other (sym same)
            | suc t ↦ λ here same. apart' (t, omega (arith, here), same)
          ] at is)
    ] in
    let rest = prices_of-all goals (set v goal 0) (AllPairs-tail ◌≢◌ goal goals apart)
    (within_set v goals goal (All-tail (λ j. j < length v) goal goals within)) none in
    omega (arith, first, rest, sum_by-set (λ x. x) v goal 0 0 inside)

-- prices of boxes that are bounded one by one by a goal's price and a distance, and that are as much
pub sum-along : (u v goals distances : List ℕ) → length goals ≡ length u → length distances ≡ length u
    → ((i : ℕ) → i < length u → get_or u i 0 ≤ get_or v (get_or goals i 0) 0 + get_or distances i 0) → (sum u ≤ prices_of v goals + sum distances)
    × (((i : ℕ) → i < length u → get_or u i 0 ≡ get_or v (get_or goals i 0) 0 + get_or distances i 0) → sum u ≡ prices_of v goals + sum distances)
sum-along [] v [] [] goals_long distances_long bound = (omega arith, λ exact. refl)
sum-along [] v [] (distance ∷ distances) goals_long distances_long bound = absurd (omega (arith, distances_long))
sum-along [] v (goal ∷ goals) distances goals_long distances_long bound = absurd (omega (arith, goals_long))
sum-along (a ∷ u) v [] distances goals_long distances_long bound = absurd (omega (arith, goals_long))
sum-along (a ∷ u) v (goal ∷ goals) [] goals_long distances_long bound = absurd (omega (arith, distances_long))
sum-along (a ∷ u) v (goal ∷ goals) (distance ∷ distances) goals_long distances_long bound =
    let (rest, same) = sum-along u v goals distances (omega (arith, goals_long)) (omega (arith, distances_long)) (λ i within.
    bound (suc i) (omega (arith, within))) in
    let u_sum = sum_by-cons (λ x. x) a u in
    let far = sum_by-cons (λ x. x) distance distances in
    let v_sum = sum_by-cons (λ j. get_or v j 0) goal goals in (
      omega (arith, rest, bound 0 (omega arith), u_sum, far, v_sum),
      λ exact. omega (arith, same (λ i within. exact (suc i) (omega (arith, within))), exact 0 (omega arith), u_sum, far, v_sum),
    )

-- a number for each place, listed
pub listed : (n : ℕ) (P : ℕ → ℕ → Type 0) → ((i : ℕ) → i < n → (d : ℕ) × P i d) → (ds : List ℕ) × (length ds ≡ n) × ((i : ℕ) → i < n → P i (get_or ds i 0))
listed zero P each = ([], refl, λ i within. absurd (omega (arith, within)))
listed (suc n) P each =
    let (ds, long, told) = listed n P (λ i within. each i (omega (arith, within))) in
    let (d, last) = each n (omega arith) in (
      ds ++ d ∷ [],
      let more = length_push ds d in omega (arith, more, long),
      λ i within. elim (cases_eq i n) [
        | inl same ↦ subst (λ k. P k (get_or (ds ++ d ∷ []) k 0)) (sym same) (subst (P n) (sym (get_or_push ds d 0 n long)) last)
        | inr other ↦
            let inside : i < n = omega (arith, within, other) in
            subst (P i) (sym (get_or_append_left ds (d ∷ []) 0 i (omega (arith, inside, long)))) (told i inside)
      ],
    )

pub Contains-map : {X Y : Type 0} (f : X → Y) (xs : List X) (x : X) → Contains xs x → Contains (map f xs) (f x)
Contains-map f xs x (k, within, is) = (k, omega (arith, within, length-map xs f), get_or-map f xs k x (f x) within ∙ ap f is)

-- numbers that are apart are the same at one place alone
pub same_place : (xs : List ℕ) → AllPairs ◌≢◌ xs → (i j : ℕ) → i < length xs → j < length xs → get_or xs i 0 ≡ get_or xs j 0 → i ≡ j
same_place xs apart i j i_within j_within same = grind (arith, apart i j 0, apart j i 0)

-- and where that is so, they are apart
pub apart_from : (xs : List ℕ) → ((i j : ℕ) → i < length xs → j < length xs → get_or xs i 0 ≡ get_or xs j 0 → i ≡ j) → AllPairs ◌≢◌ xs
apart_from xs one i j d before within same =
    grind (arith, one i j, get_or_default xs i 0 d, get_or_default xs j d 0, before, within, same)

pub apart_rising : (xs : List ℕ) → IsStrictlyIncreasing xs → AllPairs ◌≢◌ xs
apart_rising xs rising i j d before within same = let rises = AllPairs-from_increasing xs rising i j d before within in omega (arith, rises, same)

-- the places where some numbers stand in a list
pub record ArePlaces (xs ys places : List ℕ) : Type 0 where
  pub whole : length places ≡ length xs
  pub within : (i : ℕ) → i < length xs → get_or places i 0 < length ys
  pub there : (i : ℕ) → i < length xs → get_or ys (get_or places i 0) 0 ≡ get_or xs i 0

pub places_in : (xs ys : List ℕ) → All (Contains ys) xs → (places : List ℕ) × ArePlaces xs ys places
places_in xs ys each =
    let (places, whole, told) = listed (length xs) (λ i k. (k < length ys) × (get_or ys k 0 ≡ get_or xs i 0)) (λ i within.
    let (k, inside, is) = each i 0 within in
    (k, (inside, get_or_default ys k 0 (get_or xs i 0) inside ∙ is))) in
    (places, record { whole = whole; within = λ i within. (told i within).0; there = λ i within. (told i within).1 })

pub places_within : (xs ys places : List ℕ) → ArePlaces xs ys places → All (λ k. k < length ys) places
places_within xs ys places are = All-from_get_or (λ k. k < length ys) places 0 (λ i within. are.within i (omega (arith, within, are.whole)))

pub places_apart : (xs ys places : List ℕ) → ArePlaces xs ys places → AllPairs ◌≢◌ xs → AllPairs ◌≢◌ places
places_apart xs ys places are apart = apart_from places (λ i j i_within j_within same.
    let one = same_place xs apart i j in
    grind (arith, one, are.there i, are.there j, are.whole, i_within, j_within, same))

-- different numbers below an end are no more than there are
pub few_below : (n : ℕ) (xs : List ℕ) → AllPairs ◌≢◌ xs → All (λ x. x < n) xs → length xs ≤ n
few_below n xs apart below = length-le_from_distinct_below xs n (IsDistinct-from_AllPairs Decides-eqb xs apart)
    (λ q there. All-contains (λ x. x < n) xs q below (Contains-from_any (λ (x y : ℕ) (same : (x == y) ≡ true). grind (arith, nat_tests, same)) q xs there))

-- different numbers of a list are no more than it has (the pigeonhole principle)
pub pigeonhole : (xs ys : List ℕ) → AllPairs ◌≢◌ xs → All (Contains ys) xs → length xs ≤ length ys
pigeonhole xs ys apart each =
    let (places, are) = places_in xs ys each in
    omega (arith, few_below (length ys) places (places_apart xs ys places are apart) (places_within xs ys places are), are.whole)

-- as many different numbers below an end as there are, are all of them
pub all_below : (n : ℕ) (xs : List ℕ) → length xs ≡ n → All (λ x. x < n) xs → AllPairs ◌≢◌ xs → (x : ℕ) → x < n → (Contains xs x → ⊥) → ⊥
all_below n xs long below apart x within none =
    let few = few_below n (x ∷ xs) (AllPairs-cons ◌≢◌ x xs (λ k d inside same. none (k, inside, get_or_default xs k x d inside ∙ sym same)) apart)
    (λ k d. elim k as (λ t. t < length (x ∷ xs) → get_or (x ∷ xs) t d < n) [
      | zero ↦ λ _. within
      | suc t ↦ λ inside. below t d (omega (arith, inside))
    ]) in
    omega (arith, few, long)

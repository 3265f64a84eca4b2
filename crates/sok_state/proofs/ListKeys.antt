-- Keys as lists: what a push makes of one.
use Rattle.std.proofs.Common.{ℕ, ◌≡◌, ◌<◌, ◌≤◌, ◌+◌, ◌-◌, ◌⊎◌, ◌↔◌, inl, inr, refl, sym, ap, ◌∙◌, subst, List, [], ◌∷◌, ◌++◌, Bool, true, false}
use Rattle.std.proofs.Common.{Contains, arith, length, get_or, take, cond, not, ◌==◌, ◌&&◌, zero, suc}
use Rattle.std.specs.List.{insert, list_any}
use Rattle.std.proofs.lemmas.List.Folds.{Any-from_list_any}
use Rattle.sok_rules.proofs.Proper.{fails_at_each}
use Rattle.std.specs.List.Sorted.{IsStrictlyIncreasing}
use Rattle.std.proofs.lemmas.Bool.{cases_Bool, cases_eq, cases_lt}
use Rattle.std.proofs.lemmas.Bool.Decides.{nat_tests}
use Rattle.std.proofs.lemmas.List.{append-nil, length_push, length-take, get_or_append_left, get_or_push, get_or-take}
use Rattle.std.proofs.lemmas.List.Edits.{length-insert, get_or-insert_below, get_or-insert_at, get_or-insert_above}
use Rattle.std.proofs.lemmas.List.Elements.{All-contains, Contains-get_or, filter_more}
use Rattle.std.proofs.lemmas.List.Kept.{AllPairs-from_increasing, IsStrictlyIncreasing-filter}
use Rattle.std.proofs.lemmas.List.Sorted.{Contains-permutation, IsPermutation-insert, IsPermutation-sym}
use Rattle.sok_board.specs.BoxSets.{IsMoved}
use Rattle.sok_board.specs.Limits.{square_limit}
use Rattle.sok_board.proofs.Lists.{Contains-cons, Contains-cons_cases, Contains-filter, Contains-from_filter}
use Rattle.sok_state.specs.PackedKeys.{TakesList, TakesListMove, apart, list_limit}
use Rattle.sok_state.specs.declared.key.Key.{Key}
use Rattle.sok_state.proofs.Placed.{length-rising, same_rising}

-- a list has no fewer squares than those that a push has no part in
pub length-apart : (from to : ℕ) (boxes : List ℕ) → length (apart from to boxes) ≤ length boxes
length-apart from to [] = omega arith
length-apart from to (x ∷ boxes) =
    let rest = length-apart from to boxes in
    elim (cases_Bool (not (x == from) && not (x == to))) [
      | inl stays ↦ rw stays omega (arith, rest)
      | inr goes ↦ rw goes omega (arith, rest)
    ]

-- and more, where it has one of the push
pub length-apart_less : (from to : ℕ) (boxes : List ℕ) (s : ℕ) → Contains boxes s → (s ≡ from) ⊎ (s ≡ to) → length (apart from to boxes) < length boxes
length-apart_less from to [] s (k, within, is) part = absurd (omega (arith, within))
length-apart_less from to (x ∷ boxes) s there part =
    let least = length-apart from to boxes in
    elim (cases_Bool (not (x == from) && not (x == to))) [
      | inr goes ↦ rw goes omega (arith, least)
      | inl stays ↦ rw stays (elim (Contains-cons_cases x s boxes there) [
        | inr later ↦ let rest = length-apart_less from to boxes s later part in omega (arith, rest)
        | inl is ↦ absurd (elim part [
          | inl same ↦ grind (arith, nat_tests, stays, is, same)
          | inr same ↦ grind (arith, nat_tests, stays, is, same)
        ])
      ])
    ]

-- and as many, where it has none
pub length-apart_all : (from to : ℕ) (boxes : List ℕ) → (Contains boxes from → ⊥) → (Contains boxes to → ⊥) → length (apart from to boxes) ≡ length boxes
length-apart_all from to [] no_from no_to = refl
length-apart_all from to (x ∷ boxes) no_from no_to =
    let rest = length-apart_all from to boxes (λ there. no_from (Contains-cons x from boxes there)) (λ there. no_to (Contains-cons x to boxes there)) in
    let other : x ≡ from → ⊥ = λ same. no_from (0, omega arith, same) in
    let another : x ≡ to → ⊥ = λ same. no_to (0, omega arith, same) in
    let stays : (not (x == from) && not (x == to)) ≡ true = grind (arith, nat_tests, other, another) in
    rw stays omega (arith, rest)

-- which squares are apart from a push
Contains-apart : (from to : ℕ) (boxes : List ℕ) (s : ℕ) → Contains (apart from to boxes) s ↔ (Contains boxes s × (s ≡ from → ⊥) × (s ≡ to → ⊥))
Contains-apart from to boxes s = (
  λ there.
      let (among, passes) = Contains-from_filter (λ s. not (s == from) && not (s == to)) boxes s there in
      (among, λ same. grind (arith, nat_tests, passes, same), λ same. grind (arith, nat_tests, passes, same)),
  λ (among, other, another). Contains-filter (λ s. not (s == from) && not (s == to)) boxes s among (grind (arith, nat_tests, other, another)),
)

-- the squares below and past a place of a list are below and past a number
pub record IsSplit (to : ℕ) (items : List ℕ) (below : ℕ) : Type 0 where
  pub within : below ≤ length items
  pub low : (k : ℕ) → k < below → get_or items k 0 < to
  pub high : (k : ℕ) → below ≤ k → k < length items → to < get_or items k 0

-- one more, above all others
pub IsSplit-low : (to : ℕ) (items : List ℕ) (s : ℕ) → IsStrictlyIncreasing (items ++ s ∷ []) → s < to → IsSplit to (items ++ s ∷ []) (length (items ++ s ∷ []))
IsSplit-low to items s rising less = record {
  within = omega arith;
  low = λ k below.
      let long = length_push items s in
      let last = get_or_push items s 0 (length items) refl in
      elim (cases_lt k (length items)) [
        | inl here ↦
            let less_last = AllPairs-from_increasing (items ++ s ∷ []) rising k (length items) 0 here (omega (arith, long)) in
            omega (arith, less_last, last, less)
        | inr past ↦ let same = get_or_push items s 0 k (omega (arith, past, below, long)) in omega (arith, same, less)
      ];
  high = λ k above within. absurd (omega (arith, above, within));
}

pub IsSplit-high : (to : ℕ) (items : List ℕ) (below s : ℕ) → to < s → IsSplit to items below → IsSplit to (items ++ s ∷ []) below
IsSplit-high to items below s more split =
    let long = length_push items s in
    record {
      within = let old = split.within in omega (arith, old, long);
      low = λ k under.
          let inside = split.within in
          let here : k < length items = omega (arith, under, inside) in
          let same = get_or_append_left items (s ∷ []) 0 k here in
          let old = split.low k under in
          omega (arith, same, old);
      high = λ k above within. elim (cases_lt k (length items)) [
        | inl here ↦ let same = get_or_append_left items (s ∷ []) 0 k here in let old = split.high k above here in omega (arith, same, old)
        | inr last ↦ let same = get_or_push items s 0 k (omega (arith, within, long, last)) in omega (arith, same, more)
      ];
    }

-- a number at its place keeps a list rising
pub IsStrictlyIncreasing-insert : (to : ℕ) (items : List ℕ) (below : ℕ) → IsStrictlyIncreasing items → IsSplit to items below
    → IsStrictlyIncreasing (insert items below to)
IsStrictlyIncreasing-insert to items below rising split k inside =
    let within = split.within in
    let long = length-insert items below to within in
    elim (cases_lt (k + 1) below) [
      | inl under ↦
          let one = get_or-insert_below items below to 0 k (omega (arith, under)) within in
          let two = get_or-insert_below items below to 0 (k + 1) under within in
          let old = rising k (omega (arith, under, within)) in
          omega (arith, one, two, old)
      | inr past ↦ elim (cases_eq (k + 1) below) [
        | inl same ↦
            let one = get_or-insert_below items below to 0 k (omega (arith, same)) within in
            let two = subst (λ n. get_or (insert items below to) n 0 ≡ to) (sym same) (get_or-insert_at items below to 0 within) in
            let low = split.low k (omega (arith, same)) in
            omega (arith, one, two, low)
        | inr other ↦
            let two = get_or-insert_above items below to 0 k (omega (arith, past, other)) within in
            elim (cases_eq k below) [
              | inl here ↦
                  let one = subst (λ n. get_or (insert items below to) n 0 ≡ to) (sym here) (get_or-insert_at items below to 0 within) in
                  let high = split.high k (omega (arith, here)) (omega (arith, inside, long)) in
                  omega (arith, one, two, high)
              | inr above ↦
                  let back : k - 1 + 1 ≡ k = omega (arith, past, other, above) in
                  let one = ap (λ n. get_or (insert items below to) n 0) (sym back)
                  ∙ get_or-insert_above items below to 0 (k - 1) (omega (arith, past, other, above)) within in
                  let old = rising (k - 1) (omega (arith, inside, long, back)) in
                  let kept = ap (λ n. get_or items n 0) back in
                  omega (arith, one, two, old, kept)
            ]
      ]
    ]

-- which squares it then has
Contains-insert : (to : ℕ) (items : List ℕ) (below s : ℕ) → Contains (insert items below to) s ↔ ((s ≡ to) ⊎ Contains items s)
Contains-insert to items below s =
    let moved = IsPermutation-insert items below to in (
      λ there. elim (Contains-cons_cases to s items (Contains-permutation (insert items below to) (to ∷ items) s (IsPermutation-sym (to ∷ items) (insert items below to) moved) there))
          [ inl is ↦ inl (sym is) | inr among ↦ inr among ],
      λ one. Contains-permutation (to ∷ items) (insert items below to) s moved
          (elim one [ inl is ↦ (0, omega arith, sym is) | inr among ↦ Contains-cons to s items among ]),
    )

-- so it is the list with one box moved
pub IsMoved-insert : (from to : ℕ) (boxes : List ℕ) (below : ℕ) → IsMoved boxes from to (insert (apart from to boxes) below to)
IsMoved-insert from to boxes below s = (
  λ there. elim ((Contains-insert to (apart from to boxes) below s).0 there) [
    | inl is ↦ inl is
    | inr among ↦ let (was, other, _) = (Contains-apart from to boxes s).0 among in inr (was, other)
  ],
  λ one. (Contains-insert to (apart from to boxes) below s).1 (elim (cases_eq s to) [
    | inl is ↦ inl is
    | inr another ↦ elim one [
      | inl is ↦ inl is
      | inr (was, other) ↦ inr ((Contains-apart from to boxes s).1 (was, other, another))
    ]
  ]),
)

-- what a look for a number tells
pub listed : (xs : List ℕ) (x : ℕ) → list_any (λ y. y == x) xs ≡ true → Contains xs x
listed xs x e =
    let (k, t, below, at, same) = Any-from_list_any (λ y. y == x) xs e in
    let is : t ≡ x = grind (arith, nat_tests, same) in
    (k, below, ap (get_or xs k) (sym is) ∙ at ∙ is)

pub unlisted : (xs : List ℕ) (x : ℕ) → list_any (λ y. y == x) xs ≡ false → Contains xs x → ⊥
unlisted xs x e (k, within, is) = let fails = fails_at_each (λ y. y == x) xs e k x within in grind (arith, nat_tests, fails, is)

-- where a push has no part in a list, there is a square more behind it
pub more_squares : (from to : ℕ) (boxes next : List ℕ) → IsStrictlyIncreasing boxes → IsStrictlyIncreasing next → IsMoved boxes from to next
    → (Contains boxes from → ⊥) → (Contains boxes to → ⊥) → length boxes < length next
more_squares from to boxes next rising next_rising moved no_from no_to =
    let there : Contains next to = (moved to).1 (inl refl) in
    let less = length-apart_less to to next to there (inl refl) in
    let same : boxes ≡ apart to to next = same_rising boxes (apart to to next) rising (IsStrictlyIncreasing-filter _ next next_rising)
    (λ s among. (Contains-apart to to next s).1 (
      (moved s).1 (inr (among, λ is. no_from (subst (Contains boxes) is among))),
      (λ is. no_to (subst (Contains boxes) is among)),
      (λ is. no_to (subst (Contains boxes) is among)),
    ))
    (λ s among. let (one, other, _) = (Contains-apart to to next s).0 among in elim ((moved s).0 one) [ inl is ↦ absurd (other is) | inr (was, _) ↦ was ]) in
    let long = ap length same in
    omega (arith, long, less)

-- where it moves one of the boxes, there are no more behind it
pub no_more_squares : (from to : ℕ) (boxes next : List ℕ) → IsStrictlyIncreasing next → IsMoved boxes from to next → Contains boxes from
    → length next ≤ length boxes
no_more_squares from to boxes next rising moved there =
    let fewer = length-apart_less from to boxes from there (inl refl) in
    let all = length-rising next (to ∷ apart from to boxes) rising (λ s among. elim (cases_eq s to) [
      | inl is ↦ (0, omega arith, sym is)
      | inr other ↦ elim ((moved s).0 among) [
        | inl is ↦ absurd (other is)
        | inr (was, left) ↦ Contains-cons to s (apart from to boxes) ((Contains-apart from to boxes s).1 (was, left, other))
      ]
    ]) in
    omega (arith, fewer, all)

-- so it is of too many boxes for a list, if those apart from the push fill one
pub past_lists : (from to : ℕ) (boxes next : List ℕ) → IsStrictlyIncreasing boxes → IsStrictlyIncreasing next → IsMoved boxes from to next
    → length boxes ≤ list_limit → (length (apart from to boxes) < list_limit → ⊥) → list_limit < length next
past_lists from to boxes next rising next_rising moved few full =
    let no_from : Contains boxes from → ⊥ = λ there. let less = length-apart_less from to boxes from there (inl refl) in full (omega (arith, less, few)) in
    let no_to : Contains boxes to → ⊥ = λ there. let less = length-apart_less from to boxes to there (inr refl) in full (omega (arith, less, few)) in
    let all = length-apart_all from to boxes no_from no_to in
    let more = more_squares from to boxes next rising next_rising moved no_from no_to in
    elim (cases_lt (length boxes) list_limit) [ inl less ↦ absurd (full (omega (arith, less, all))) | inr enough ↦ omega (arith, enough, more) ]

rising-take : (xs : List ℕ) (n : ℕ) → IsStrictlyIncreasing xs → IsStrictlyIncreasing (take n xs)
rising-take xs n rising k within =
    let long = length-take n xs in
    let one = get_or-take n xs k 0 (omega (arith, within, long)) in
    let two = get_or-take n xs (k + 1) 0 (omega (arith, within, long)) in
    let old = rising k (omega (arith, within, long)) in
    omega (arith, one, two, old)

pub length-apart_take : (from to n : ℕ) (boxes : List ℕ) → length (apart from to (take n boxes)) ≤ length (apart from to boxes)
length-apart_take from to zero boxes = omega arith
length-apart_take from to (suc n) [] = omega arith
length-apart_take from to (suc n) (x ∷ boxes) =
    let rest = length-apart_take from to n boxes in
    elim (cases_Bool (not (x == from) && not (x == to))) [
      | inl stays ↦ rw stays omega (arith, rest)
      | inr goes ↦ rw goes omega (arith, rest)
    ]

-- of a list as far as it was read: what is apart from a push, with the place of the square that comes
pub record IsKept (from to : ℕ) (boxes : List ℕ) (i : ℕ) (kept : List ℕ) (below : ℕ) : Type 0 where
  pub listed : kept ≡ apart from to (take i boxes)
  pub split : IsSplit to kept below

module _ (from to : ℕ) (boxes : List ℕ) (i : ℕ) (inside : i < length boxes) (kept : List ℕ) (below : ℕ) (is : IsKept from to boxes i kept below) where
  next_apart : (b : Bool) → (not (get_or boxes i 0 == from) && not (get_or boxes i 0 == to)) ≡ b
      → apart from to (take (i + 1) boxes) ≡ kept ++ cond b (get_or boxes i 0 ∷ []) []
  next_apart b e = filter_more (λ s. not (s == from) && not (s == to)) boxes i 0 inside
      ∙ (λ j. sym is.listed j ++ cond (e j) (get_or boxes i 0 ∷ []) [])

  stays : (get_or boxes i 0 ≡ from → ⊥) → (get_or boxes i 0 ≡ to → ⊥) → apart from to (take (i + 1) boxes) ≡ kept ++ get_or boxes i 0 ∷ []
  stays other another = next_apart true (grind (arith, nat_tests, other, another))

  pub IsKept-low : IsStrictlyIncreasing boxes → (get_or boxes i 0 ≡ from → ⊥) → (get_or boxes i 0 ≡ to → ⊥) → get_or boxes i 0 < to
      → IsKept from to boxes (i + 1) (kept ++ get_or boxes i 0 ∷ []) (length (kept ++ get_or boxes i 0 ∷ []))
  IsKept-low rising other another less = record {
    listed = sym (stays other another);
    split = IsSplit-low to kept (get_or boxes i 0) (subst IsStrictlyIncreasing (stays other another)
        (IsStrictlyIncreasing-filter _ (take (i + 1) boxes) (rising-take boxes (i + 1) rising))) less;
  }

  pub IsKept-high : (get_or boxes i 0 ≡ from → ⊥) → (get_or boxes i 0 ≡ to → ⊥) → to ≤ get_or boxes i 0
      → IsKept from to boxes (i + 1) (kept ++ get_or boxes i 0 ∷ []) below
  IsKept-high other another more = record {
    listed = sym (stays other another);
    split = IsSplit-high to kept below (get_or boxes i 0) (omega (arith, another, more)) is.split;
  }

  pub IsKept-out : (get_or boxes i 0 ≡ from) ⊎ (get_or boxes i 0 ≡ to) → IsKept from to boxes (i + 1) kept below
  IsKept-out part = record {
    listed = sym (next_apart false (elim part [ inl same ↦ grind (arith, nat_tests, same) | inr same ↦ grind (arith, nat_tests, same) ]) ∙ append-nil kept);
    split = is.split;
  }

-- in the end there are few squares, and they rise
pub TakesList-insert : (key next : Key) (from to below : ℕ) → TakesListMove key from to → TakesList key → below ≤ length (apart from to key.boxes)
    → next.boxes ≡ insert (apart from to key.boxes) below to → TakesList next
TakesList-insert key next from to below takes taken within is =
    let kept = apart from to key.boxes in
    let long : length next.boxes ≡ length kept + 1 = ap length is ∙ length-insert kept below to within in
    record {
      few = let few = takes.few in omega (arith, few, long);
      room = λ k d inside.
          let there = subst (λ (squares : List ℕ). Contains squares (get_or next.boxes k d)) is (Contains-get_or next.boxes k d inside) in
          elim ((Contains-insert to kept below (get_or next.boxes k d)).0 there) [
            | inl same ↦ subst (λ s. s < square_limit) (sym same) takes.room
            | inr among ↦ All-contains (λ s. s < square_limit) key.boxes _ taken.room ((Contains-apart from to key.boxes _).0 among).0
          ];
    }

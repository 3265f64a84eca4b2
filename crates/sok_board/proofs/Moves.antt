-- A rising list without one square and with another.
use Rattle.std.proofs.Common.{ℕ, ◌≡◌, ◌<◌, ◌≤◌, ◌+◌, ◌⊎◌, inl, inr, refl, sym, List, [], ◌∷◌, false, ◌∙◌, not, ◌==◌, nat_lt, arith, All, AllPairs, Contains}
use Rattle.std.proofs.Common.{length, get_or, subst}
use Rattle.std.proofs.lemmas.Bool.{cases_Bool}
use Rattle.std.proofs.lemmas.Bool.Decides.{nat_tests}
use Rattle.std.proofs.lemmas.List.Kept.{AllPairs-cons, AllPairs-from_increasing, AllPairs-filter}
use Rattle.std.proofs.lemmas.List.Elements.{All-contains, Contains-get_or}
use Rattle.std.specs.List.Sorted.{IsStrictlyIncreasing}
use Rattle.sok_board.proofs.Lists.{AllPairs-head, AllPairs-tail, Contains-cons, Contains-cons_cases, Contains-filter, Contains-from_filter}
use Rattle.sok_board.specs.Limits.{box_limit}
use Rattle.sok_board.specs.BoxSets.{IsBoxList, IsMoved, put_in_order, without}

-- which squares there are in the end
abbrev IsPut : List ℕ → ℕ → ℕ → ℕ → Type 0
IsPut boxes from to s = (s ≡ to) ⊎ (Contains boxes s × (s ≡ from → ⊥))

none : {X : Type 0} {x : X} → Contains [] x → ⊥
none (k, within, is) = omega (arith, within)

first : {X : Type 0} (x : X) (xs : List X) → Contains (x ∷ xs) x
first x xs = (0, omega arith, refl)

IsPut-later : (s x : ℕ) (boxes : List ℕ) (from to : ℕ) → IsPut boxes from to s → IsPut (x ∷ boxes) from to s
IsPut-later s x boxes from to (inl is) = inl is
IsPut-later s x boxes from to (inr (there, other)) = inr (Contains-cons x s boxes there, other)

without-from : (from s : ℕ) (boxes : List ℕ) → Contains (without from boxes) s → Contains boxes s × (s ≡ from → ⊥)
without-from from s boxes there =
    let (among, passes) = Contains-from_filter (λ s. not (s == from)) boxes s there in
    (among, λ same. grind (arith, nat_tests, passes, same))

without-to : (from s : ℕ) (boxes : List ℕ) → Contains boxes s → (s ≡ from → ⊥) → Contains (without from boxes) s
without-to from s boxes there other = Contains-filter (λ s. not (s == from)) boxes s there (grind (arith, nat_tests, other))

put-sound : (from to : ℕ) (boxes : List ℕ) (s : ℕ) → Contains (put_in_order from to boxes) s → IsPut boxes from to s
unfolding put_in_order
put-sound from to [] s = λ there. elim (Contains-cons_cases to s [] there) [ inl is ↦ inl (sym is) | inr rest ↦ absurd (none rest) ]
put-sound from to (x ∷ boxes) s = elim (cases_Bool (nat_lt to x)) [
  | inl past ↦ rw past λ there. elim (Contains-cons_cases to s (without from (x ∷ boxes)) there)
      [ inl is ↦ inl (sym is) | inr rest ↦ inr (without-from from s (x ∷ boxes) rest) ]
  | inr before ↦ elim (cases_Bool (x == from)) [
    | inl leaves ↦ rw before rw leaves λ there. IsPut-later s x boxes from to (put-sound from to boxes s there)
    | inr stays ↦ rw before rw stays λ there. elim (Contains-cons_cases x s (put_in_order from to boxes) there) [
      | inl is ↦ inr ((0, omega arith, is), λ same. grind (arith, nat_tests, stays, same, is))
      | inr rest ↦ IsPut-later s x boxes from to (put-sound from to boxes s rest)
    ]
  ]
]

put-whole : (from to : ℕ) (boxes : List ℕ) (s : ℕ) → IsPut boxes from to s → Contains (put_in_order from to boxes) s
unfolding put_in_order
put-whole from to [] s = λ is_put. elim is_put [ inl is ↦ (0, omega arith, sym is) | inr (there, other) ↦ absurd (none there) ]
put-whole from to (x ∷ boxes) s = elim (cases_Bool (nat_lt to x)) [
  | inl past ↦ rw past λ is_put. elim is_put [
    | inl is ↦ (0, omega arith, sym is)
    | inr (there, other) ↦ Contains-cons to s (without from (x ∷ boxes)) (without-to from s (x ∷ boxes) there other)
  ]
  | inr before ↦ elim (cases_Bool (x == from)) [
    | inl leaves ↦ rw before rw leaves λ is_put. put-whole from to boxes s (elim is_put [
      | inl is ↦ inl is
      | inr (there, other) ↦ elim (Contains-cons_cases x s boxes there) [
        | inl is ↦ absurd (other (let from_is : x ≡ from = grind (arith, nat_tests, leaves) in sym is ∙ from_is))
        | inr rest ↦ inr (rest, other)
      ]
    ])
    | inr stays ↦ rw before rw stays λ is_put. elim is_put [
      | inl is ↦ Contains-cons x s (put_in_order from to boxes) (put-whole from to boxes s (inl is))
      | inr (there, other) ↦ elim (Contains-cons_cases x s boxes there) [
        | inl is ↦ (0, omega arith, is)
        | inr rest ↦ Contains-cons x s (put_in_order from to boxes) (put-whole from to boxes s (inr (rest, other)))
      ]
    ]
  ]
]

-- the order in which squares are listed
abbrev pub Below : ℕ → ℕ → Type 0
Below x y = x < y

-- what holds of each member holds of all
All-members : {X : Type 0} (P : X → Type 0) (xs : List X) → ((x : X) → Contains xs x → P x) → All P xs
All-members P xs each = λ k d within. each (get_or xs k d) (Contains-get_or xs k d within)

AllPairs-without : (from : ℕ) (boxes : List ℕ) → AllPairs Below boxes → AllPairs Below (without from boxes)
AllPairs-without from boxes pairs = AllPairs-filter Below (λ s. not (s == from)) boxes pairs

put-rising : (from to : ℕ) (boxes : List ℕ) → AllPairs Below boxes → (Contains boxes to → ⊥) → AllPairs Below (put_in_order from to boxes)
unfolding put_in_order
put-rising from to [] pairs new = AllPairs-cons Below to [] (λ k d within. absurd (omega (arith, within))) pairs
put-rising from to (x ∷ boxes) pairs new =
    let later : All (Below x) boxes = AllPairs-head Below x boxes pairs in
    let rest = put-rising from to boxes (AllPairs-tail Below x boxes pairs) (λ there. new (Contains-cons x to boxes there)) in
    elim (cases_Bool (nat_lt to x)) [
      | inl past ↦ rw past (AllPairs-cons Below to (without from (x ∷ boxes)) (All-members (Below to) (without from (x ∷ boxes)) (λ s there.
          let less : to < x = grind (arith, nat_tests, past) in
          elim (Contains-cons_cases x s boxes (without-from from s (x ∷ boxes) there).0) [
            | inl is ↦ omega (arith, less, is)
            | inr among ↦ let more = All-contains (Below x) boxes s later among in omega (arith, less, more)
          ])) (AllPairs-without from (x ∷ boxes) pairs))
      | inr before ↦ elim (cases_Bool (x == from)) [
        | inl leaves ↦ rw before rw leaves rest
        | inr stays ↦ rw before rw stays (AllPairs-cons Below x (put_in_order from to boxes) (All-members (Below x) (put_in_order from to boxes) (λ s there.
            elim (put-sound from to boxes s there) [
              | inl is ↦
                  let apart : x ≡ to → ⊥ = λ same. new (0, omega arith, same) in
                  grind (arith, nat_tests, before, is, apart)
              | inr (among, _) ↦ All-contains (Below x) boxes s later among
            ])) rest)
      ]
    ]

-- what is put rises
put-increases : (from to : ℕ) (boxes : List ℕ) → IsStrictlyIncreasing boxes → (Contains boxes to → ⊥) → IsStrictlyIncreasing (put_in_order from to boxes)
put-increases from to boxes rising new = λ k within. put-rising from to boxes (AllPairs-from_increasing boxes rising) new k (k + 1) 0 (omega arith) within

length-without_none : (from : ℕ) (boxes : List ℕ) → (Contains boxes from → ⊥) → length (without from boxes) ≡ length boxes
length-without_none from [] out = refl
length-without_none from (x ∷ boxes) out =
    let other : (x == from) ≡ false = let apart : x ≡ from → ⊥ = λ same. out (0, omega arith, same) in grind (arith, nat_tests, apart) in
    let rest = length-without_none from boxes (λ there. out (Contains-cons x from boxes there)) in
    rw other omega (arith, rest)

-- a square that leaves is listed once
not_later : (x : ℕ) (boxes : List ℕ) → All (Below x) boxes → Contains boxes x → ⊥
not_later x boxes later there = let more = All-contains (Below x) boxes x later there in omega (arith, more)

length-without : (from : ℕ) (boxes : List ℕ) → AllPairs Below boxes → Contains boxes from → length (without from boxes) + 1 ≡ length boxes
length-without from [] pairs there = absurd (none there)
length-without from (x ∷ boxes) pairs there = elim (cases_Bool (x == from)) [
  | inl leaves ↦
      let is : x ≡ from = grind (arith, nat_tests, leaves) in
      let rest = length-without_none from boxes (λ again. not_later x boxes (AllPairs-head Below x boxes pairs) (subst (Contains boxes) (sym is) again)) in
      rw leaves omega (arith, rest)
  | inr stays ↦ elim (Contains-cons_cases x from boxes there) [
    | inl is ↦ absurd (grind (arith, nat_tests, stays, is))
    | inr among ↦ let rest = length-without from boxes (AllPairs-tail Below x boxes pairs) among in rw stays omega (arith, rest)
  ]
]

length-put_none : (from to : ℕ) (boxes : List ℕ) → (Contains boxes from → ⊥) → length (put_in_order from to boxes) ≡ length boxes + 1
unfolding put_in_order
length-put_none from to [] out = refl
length-put_none from to (x ∷ boxes) out =
    let other : (x == from) ≡ false = let apart : x ≡ from → ⊥ = λ same. out (0, omega arith, same) in grind (arith, nat_tests, apart) in
    let rest = length-put_none from to boxes (λ there. out (Contains-cons x from boxes there)) in
    elim (cases_Bool (nat_lt to x)) [
      | inl past ↦ let all = length-without_none from (x ∷ boxes) out in rw past omega (arith, all)
      | inr before ↦ rw before rw other omega (arith, rest)
    ]

-- and as many squares as before
length-put : (from to : ℕ) (boxes : List ℕ) → AllPairs Below boxes → Contains boxes from → length (put_in_order from to boxes) ≡ length boxes
unfolding put_in_order
length-put from to [] pairs there = absurd (none there)
length-put from to (x ∷ boxes) pairs there = elim (cases_Bool (nat_lt to x)) [
  | inl past ↦ let all = length-without from (x ∷ boxes) pairs there in rw past omega (arith, all)
  | inr before ↦ elim (cases_Bool (x == from)) [
    | inl leaves ↦
        let is : x ≡ from = grind (arith, nat_tests, leaves) in
        let rest = length-put_none from to boxes (λ again. not_later x boxes (AllPairs-head Below x boxes pairs) (subst (Contains boxes) (sym is) again)) in
        rw before rw leaves omega (arith, rest)
    | inr stays ↦ elim (Contains-cons_cases x from boxes there) [
      | inl is ↦ absurd (grind (arith, nat_tests, stays, is))
      | inr among ↦ let rest = length-put from to boxes (AllPairs-tail Below x boxes pairs) among in rw before rw stays omega (arith, rest)
    ]
  ]
]

pub IsMoved-put : (from to : ℕ) (boxes : List ℕ) → IsMoved boxes from to (put_in_order from to boxes)
IsMoved-put from to boxes = λ s. (put-sound from to boxes s, put-whole from to boxes s)

pub IsBoxList-put : (from to : ℕ) (boxes : List ℕ) → IsStrictlyIncreasing boxes → length boxes ≤ box_limit → Contains boxes from
    → (Contains boxes to → ⊥)
    → IsBoxList (put_in_order from to boxes) × (length (put_in_order from to boxes) ≡ length boxes)
IsBoxList-put from to boxes rising few there new =
    let same = length-put from to boxes (AllPairs-from_increasing boxes rising) there in
    (record { rising = put-increases from to boxes rising new; few = omega (arith, same, few) }, same)

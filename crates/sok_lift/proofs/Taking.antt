-- Pairs of free boxes that are taken one after another.
use Rattle.std.proofs.Common.{ℕ, ◌≡◌, ◌≤◌, ◌<◌, ◌+◌, ◌∙◌, ◌⊎◌, inl, inr, sym, ap, subst, List, [], ◌∷◌, ◌++◌, Bool, true, false, true≢false, Contains, arith, get_or}
use Rattle.std.proofs.Common.{length, set}
use Rattle.std.proofs.lemmas.Bool.{cases_eq, cases_lt}
use Rattle.std.proofs.lemmas.List.{get_or-set_other, get_or-set_same, get_or_past, length-set}
use Rattle.std.proofs.lemmas.List.Elements.{Contains-push_cases}
use Rattle.sok_lift.specs.Lifts.{ArePairs, HasLifts, lifts, places_of}
use Rattle.sok_lift.proofs.Pairing.{ArePairs-more, ArePairs-none, lifts-more, places_of-more}
use Rattle.sok_lift.specs.Numbers.{LiftTable, lift_in}
use Rattle.sok_lift.specs.Pairs.{AreFree, IsFree, IsPartner}

-- so many for pairs that share no box, of which none is free
pub record HasTaken (f : ℕ → ℕ → ℕ → ℕ) (player : ℕ) (boxes : List ℕ) (free : List Bool) (n : ℕ) : Type 0 where
  pub pairs : List (ℕ × ℕ)
  pub are : ArePairs (length boxes) pairs
  pub taken : (k : ℕ) → Contains (places_of pairs) k → get_or free k false ≡ false
  pub total : n ≤ lifts f player boxes pairs

-- none at first
pub HasTaken-none : (f : ℕ → ℕ → ℕ → ℕ) (player : ℕ) (boxes : List ℕ) (free : List Bool) → HasTaken f player boxes free 0
HasTaken-none f player boxes free = record {
  pairs = [];
  are = ArePairs-none (length boxes);
  taken = λ k (i, within, is). absurd (omega (arith, within));
  total = omega arith;
}

-- a place that is free is one of the list
free_within : (free : List Bool) (k : ℕ) → get_or free k false ≡ true → k < length free
free_within free k is = elim (cases_lt k (length free)) [
  | inl below ↦ below
  | inr past ↦ absurd (true≢false (sym is ∙ get_or_past free k false past))
]

-- what is taken stays taken
set_taken : (free : List Bool) (i k : ℕ) → get_or free k false ≡ false → get_or (set free i false) k false ≡ false
set_taken free i k taken = elim (cases_eq k i) [
  | inr other ↦ get_or-set_other free i k false false other ∙ taken
  | inl same ↦ elim (cases_lt i (length free)) [
    | inl below ↦ ap (λ j. get_or (set free i false) j false) same ∙ get_or-set_same free i false false below
    | inr past ↦ get_or_past (set free i false) k false (let long = length-set free i false in omega (arith, long, past, same))
  ]
]

-- a place of one pair more
place_of-more : (pairs : List (ℕ × ℕ)) (i j k : ℕ) → Contains (places_of (pairs ++ (i, j) ∷ [])) k → Contains (places_of pairs) k ⊎ ((i ≡ k) ⊎ (j ≡ k))
place_of-more pairs i j k among = elim (Contains-push_cases (places_of pairs ++ i ∷ []) j k (rw (places_of-more pairs i j) at among)) [
  | inr last ↦ inr (inr last)
  | inl before ↦ elim (Contains-push_cases (places_of pairs) i k before) [ inl old ↦ inl old | inr here ↦ inr (inl here) ]
]

-- one pair more
pub HasTaken-more : (f : ℕ → ℕ → ℕ → ℕ) (player : ℕ) (boxes : List ℕ) (free : List Bool) (n i j : ℕ) → length free ≡ length boxes → AreFree free i j
    → HasTaken f player boxes free n
    → HasTaken f player boxes (set (set free i false) j false) (n + f player (get_or boxes i 0) (get_or boxes j 0))
HasTaken-more f player boxes free n i j long are has =
    let i_in = free_within free i are.one_free in
    let j_in = free_within free j are.other_free in
    let pairs = has.pairs ++ (i, j) ∷ [] in
    record {
      pairs = pairs;
      are = ArePairs-more (length boxes) has.pairs i j has.are (omega (arith, i_in, long)) (omega (arith, j_in, long)) are.apart
          (λ among. true≢false (sym are.one_free ∙ has.taken i among)) (λ among. true≢false (sym are.other_free ∙ has.taken j among));
      taken = λ k among. elim (place_of-more has.pairs i j k among) [
        | inl old ↦ set_taken (set free i false) j k (set_taken free i k (has.taken k old))
        | inr (inl first) ↦ set_taken (set free i false) j k
            (ap (λ t. get_or (set free i false) t false) (sym first) ∙ get_or-set_same free i false false i_in)
        | inr (inr second) ↦ ap (λ t. get_or (set (set free i false) j false) t false) (sym second)
            ∙ get_or-set_same (set free i false) j false false (let same = length-set free i false in omega (arith, same, j_in))
      ];
      total = let more = lifts-more f player boxes has.pairs (i, j) in let before = has.total in omega (arith, more, before);
    }

-- they are lifts of pairs that share no box
pub HasLifts-HasTaken : (f : ℕ → ℕ → ℕ → ℕ) (player : ℕ) (boxes : List ℕ) (free : List Bool) (n : ℕ) → HasTaken f player boxes free n → HasLifts f player boxes n
HasLifts-HasTaken f player boxes free n has = record { pairs = has.pairs; are = has.are; total = has.total }

-- a box and its partner are taken
pub taken-partner : (t : LiftTable) (player : ℕ) (boxes : List ℕ) (free : List Bool) (n one other lift : ℕ) → length free ≡ length boxes → one < length boxes
    → ((k : ℕ) → one ≤ k → k < length boxes → IsFree free k) → IsPartner t player boxes free one other lift → HasTaken (lift_in t) player boxes free n
    → HasTaken (lift_in t) player boxes (set (set free one false) other false) (n + lift)
taken-partner t player boxes free n one other lift room within later found has =
    let before = found.before in
    subst (λ more. HasTaken (lift_in t) player boxes (set (set free one false) other false) (n + more)) (sym found.is)
    (HasTaken-more (lift_in t) player boxes free n one other room
    (record { one_free = later one (omega arith) within; other_free = found.is_free; apart = λ same. absurd (omega (arith, same, before)) }) has)

-- those behind it are free still
pub free-behind : (boxes : List ℕ) (free : List Bool) (one other : ℕ) → other < one → ((k : ℕ) → one ≤ k → k < length boxes → IsFree free k)
    → (k : ℕ) → one + 1 ≤ k → k < length boxes → IsFree (set (set free one false) other false) k
free-behind boxes free one other before later k past within =
    get_or-set_other (set free one false) other k false false (λ same. omega (arith, same, before, past))
    ∙ get_or-set_other free one k false false (λ same. omega (arith, same, past))
    ∙ later k (omega (arith, past)) within

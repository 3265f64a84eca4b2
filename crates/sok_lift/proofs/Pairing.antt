-- Pairs that share no box, one after another, and their lifts.
use Rattle.std.proofs.lemmas.List.Elements.{Contains-push_cases}
use Rattle.std.proofs.lemmas.List.Sums.{sum_by_push}
use Rattle.sok_price.proofs.Words.{ℕ, ◌≡◌, ◌≢◌, ◌<◌, ◌+◌, ◌∙◌, refl, ap, List, [], ◌∷◌, ◌++◌, AllPairs, Contains, arith, All-push, all_pairs_push}
use Rattle.sok_price.proofs.Words.{get_or_default, inl, inr, All, All-head, All-tail, AllPairs-head, AllPairs-tail}
use Rattle.sok_lift.specs.Lifts.{ArePairs, lift_of, lifts, places_of}

-- the first pair
pub record IsFirstPair (n : ℕ) (p : ℕ × ℕ) (pairs : List (ℕ × ℕ)) : Type 0 where
  pub first_within : p.0 < n
  pub second_within : p.1 < n
  pub apart : p.0 ≢ p.1
  pub first_alone : All (λ i. p.0 ≢ i) (places_of pairs)
  pub second_alone : All (λ i. p.1 ≢ i) (places_of pairs)
  pub rest : ArePairs n pairs

-- its places are below the end, and apart from each other and from those of the other pairs
pub first_pair : (n : ℕ) (p : ℕ × ℕ) (pairs : List (ℕ × ℕ)) → ArePairs n (p ∷ pairs) → IsFirstPair n p pairs
first_pair n p pairs are =
    let rest_within = All-tail (λ i. i < n) p.0 (p.1 ∷ places_of pairs) are.within in
    let after = AllPairs-head ◌≢◌ p.0 (p.1 ∷ places_of pairs) are.apart in
    let rest_apart = AllPairs-tail ◌≢◌ p.0 (p.1 ∷ places_of pairs) are.apart in
    record {
      first_within = All-head (λ i. i < n) p.0 (p.1 ∷ places_of pairs) are.within;
      second_within = All-head (λ i. i < n) p.1 (places_of pairs) rest_within;
      apart = All-head (λ i. p.0 ≢ i) p.1 (places_of pairs) after;
      first_alone = All-tail (λ i. p.0 ≢ i) p.1 (places_of pairs) after;
      second_alone = AllPairs-head ◌≢◌ p.1 (places_of pairs) rest_apart;
      rest = record {
        within = All-tail (λ i. i < n) p.1 (places_of pairs) rest_within;
        apart = AllPairs-tail ◌≢◌ p.1 (places_of pairs) rest_apart;
      };
    }

-- a place that is new stands apart at the end
ones_apart : (places : List ℕ) (i : ℕ) → AllPairs ◌≢◌ places → (Contains places i → ⊥) → AllPairs ◌≢◌ (places ++ i ∷ [])
ones_apart places i apart new = all_pairs_push ◌≢◌ places i apart (λ k d within same. new (k, within, get_or_default places k i d within ∙ same))

-- no pairs
pub ArePairs-none : (n : ℕ) → ArePairs n []
ArePairs-none n = record { within = λ k d inside. absurd (omega (arith, inside)); apart = λ i j d before inside. absurd (omega (arith, inside)) }

-- one pair more adds its places
pub places_of-more : (pairs : List (ℕ × ℕ)) (i j : ℕ) → places_of (pairs ++ (i, j) ∷ []) ≡ (places_of pairs ++ i ∷ []) ++ j ∷ []
places_of-more [] i j = refl
places_of-more (p ∷ pairs) i j = ap (λ places. p.0 ∷ p.1 ∷ places) (places_of-more pairs i j)

-- two boxes that are in no pair are one pair more
pub ArePairs-more : (n : ℕ) (pairs : List (ℕ × ℕ)) (i j : ℕ) → ArePairs n pairs → i < n → j < n → i ≢ j → (Contains (places_of pairs) i → ⊥)
    → (Contains (places_of pairs) j → ⊥) → ArePairs n (pairs ++ (i, j) ∷ [])
ArePairs-more n pairs i j are i_in j_in apart i_new j_new =
    let old = places_of pairs in
    let one = ones_apart old i are.apart i_new in
    let two = ones_apart (old ++ i ∷ []) j one (λ among. elim (Contains-push_cases old i j among) [ inl before ↦ j_new before | inr last ↦ apart last ]) in
    record {
      within = rw (places_of-more pairs i j) (All-push (λ k. k < n) (old ++ i ∷ []) j (All-push (λ k. k < n) old i are.within i_in) j_in);
      apart = rw (places_of-more pairs i j) two;
    }

-- their lifts are the sum
pub lifts-more : (f : ℕ → ℕ → ℕ → ℕ) (player : ℕ) (boxes : List ℕ) (pairs : List (ℕ × ℕ)) (p : ℕ × ℕ)
    → lifts f player boxes (pairs ++ p ∷ []) ≡ lifts f player boxes pairs + lift_of f player boxes p
lifts-more f player boxes pairs p = sum_by_push (lift_of f player boxes) pairs p

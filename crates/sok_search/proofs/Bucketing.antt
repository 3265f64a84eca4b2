-- One index more in a bucket is one more in all.
use Rattle.std.proofs.Common.{ℕ, ◌≡◌, ◌≤◌, ◌+◌, ◌∙◌, ap, inl, inr, refl, sym, subst, List, [], ◌∷◌, ◌++◌, zero, suc, Option, Some, None, MatchOption, arith}
use Rattle.std.proofs.Common.{get_or, length, set, slice_get, take}
use Rattle.std.specs.List.{flat_map}
use Rattle.std.specs.Option.{option_to_list}
use Rattle.std.proofs.lemmas.List.{length-append, take_all}
use Rattle.std.proofs.lemmas.List.Elements.{Contains-append_left, Contains-append_right, Contains-append_cases}
use Rattle.std.proofs.lemmas.Option.{none-some, same_Some}
use Rattle.sok_search.specs.Steps.{HasOneMore}

pub one-more-left : (a : List ℕ) (i : ℕ) (b c : List ℕ) → HasOneMore a i b → HasOneMore (a ++ c) i (b ++ c)
one-more-left a i b c one = record {
  longer = let longer = one.longer in let old = length-append a c in let new = length-append b c in omega (arith, longer, old, new);
  exact = λ j. (
    λ waits. elim (Contains-append_cases b c j waits) [
      | inl first ↦ elim ((one.exact j).0 first) [ inl same ↦ inl same | inr before ↦ inr (Contains-append_left a c j before) ]
      | inr later ↦ inr (Contains-append_right a c j later)
    ],
    λ cases. elim cases [
      | inl same ↦ Contains-append_left b c j ((one.exact j).1 (inl same))
      | inr waits ↦ elim (Contains-append_cases a c j waits) [
        | inl first ↦ Contains-append_left b c j ((one.exact j).1 (inr first))
        | inr later ↦ Contains-append_right b c j later
      ]
    ],
  );
}

pub one-more-right : (a : List ℕ) (i : ℕ) (b c : List ℕ) → HasOneMore a i b → HasOneMore (c ++ a) i (c ++ b)
one-more-right a i b c one = record {
  longer = let longer = one.longer in let old = length-append c a in let new = length-append c b in omega (arith, longer, old, new);
  exact = λ j. (
    λ waits. elim (Contains-append_cases c b j waits) [
      | inl first ↦ inr (Contains-append_left c a j first)
      | inr later ↦ elim ((one.exact j).0 later) [ inl same ↦ inl same | inr before ↦ inr (Contains-append_right c a j before) ]
    ],
    λ cases. elim cases [
      | inl same ↦ Contains-append_right c b j ((one.exact j).1 (inl same))
      | inr waits ↦ elim (Contains-append_cases c a j waits) [
        | inl first ↦ Contains-append_left c b j first
        | inr later ↦ Contains-append_right c b j ((one.exact j).1 (inr later))
      ]
    ],
  );
}

pub one-more-push : (xs : List ℕ) (i : ℕ) → HasOneMore xs i (xs ++ i ∷ [])
one-more-push xs i = record {
  longer = let new = length-append xs (i ∷ []) in omega (arith, new);
  exact = λ j. (
    λ waits. elim (Contains-append_cases xs (i ∷ []) j waits) [
      | inl first ↦ inr first
      | inr (k, within, is) ↦ let last : k ≡ 0 = omega (arith, within) in inl (sym (subst (λ n. get_or (i ∷ []) n j ≡ j) last is))
    ],
    λ cases. elim cases [
      | inl same ↦ Contains-append_right xs (i ∷ []) j (0, omega arith, sym same)
      | inr first ↦ Contains-append_left xs (i ∷ []) j first
    ],
  );
}

-- in one of several lists
pub one-more-set : {X : Type 0} (f : X → List ℕ) (xs : List X) (k : ℕ) (x y : X) (i : ℕ) → slice_get xs k ≡ Some x → HasOneMore (f x) i (f y)
    → HasOneMore (flat_map f xs) i (flat_map f (set xs k y))
one-more-set f [] k x y i there one = absurd (none-some x there)
one-more-set f (z ∷ zs) zero x y i there one = one-more-left (f z) i (f y) (flat_map f zs)
    (subst (λ w. HasOneMore (f w) i (f y)) (sym (same_Some z x there)) one)
one-more-set f (z ∷ zs) (suc k) x y i there one = one-more-right (flat_map f zs) i (flat_map f (set zs k y)) (f z) (one-more-set f zs k x y i there one)

pub one-less-set : {X : Type 0} (f : X → List ℕ) (xs : List X) (k : ℕ) (x y : X) (i : ℕ) → slice_get xs k ≡ Some x → HasOneMore (f y) i (f x)
    → HasOneMore (flat_map f (set xs k y)) i (flat_map f xs)
one-less-set f [] k x y i there one = absurd (none-some x there)
one-less-set f (z ∷ zs) zero x y i there one = one-more-left (f y) i (f z) (flat_map f zs)
    (subst (λ w. HasOneMore (f y) i (f w)) (sym (same_Some z x there)) one)
one-less-set f (z ∷ zs) (suc k) x y i there one = one-more-right (flat_map f (set zs k y)) i (flat_map f zs) (f z) (one-less-set f zs k x y i there one)

-- what is taken out of one of several lists
pub popped : {X : Type 0} (f : X → List ℕ) (xs : List X) (k : ℕ) (x y : X) (whole : List ℕ) (r : Option ℕ) → slice_get xs k ≡ Some x
    → flat_map f xs ≡ whole → f x ≡ f y ++ option_to_list r → (r ≡ None → ⊥)
    → MatchOption r ((whole ≡ []) × (flat_map f (set xs k y) ≡ [])) (λ index. HasOneMore (flat_map f (set xs k y)) index whole)
popped f xs k x y whole None there is e some = absurd (some refl)
popped f xs k x y whole (Some i) there is e some =
    let one : HasOneMore (f y) i (f x) = subst (HasOneMore (f y) i) (sym e) (one-more-push (f y) i) in
    subst (HasOneMore (flat_map f (set xs k y)) i) is (one-less-set f xs k x y i there one)

-- no list of the first ones has an element
pub none-first : {X : Type 0} (f : X → List ℕ) (xs : List X) (n : ℕ) → n ≡ 0 → flat_map f (take n xs) ≡ []
none-first f xs n none = ap (λ k. flat_map f (take k xs)) none

both_empty : (xs ys : List ℕ) → xs ++ ys ≡ [] → (xs ≡ []) × (ys ≡ [])
both_empty [] ys empty = (refl, empty)
both_empty (x ∷ xs) ys empty = let long = ap length empty in absurd (omega (arith, long))

pub none-more : {X : Type 0} (f : X → List ℕ) (xs : List X) (n : ℕ) (x : X) → slice_get xs n ≡ Some x → f x ≡ [] → flat_map f (take n xs) ≡ []
    → flat_map f (take (n + 1) xs) ≡ []
none-more f [] n x there empty before = absurd (none-some x there)
none-more f (z ∷ zs) zero x there empty before = ap (λ w. f w ++ []) (same_Some z x there) ∙ ap (λ ys. ys ++ []) empty
none-more f (z ∷ zs) (suc n) x there empty before =
    let (first, rest) = both_empty (f z) (flat_map f (take n zs)) before in
    let next : suc n + 1 ≡ suc (n + 1) = omega arith in
    ap (λ k. flat_map f (take k (z ∷ zs))) next ∙ ap (λ ys. ys ++ flat_map f (take (n + 1) zs)) first ∙ none-more f zs n x there empty rest

pub none-all : {X : Type 0} (f : X → List ℕ) (xs : List X) (n : ℕ) → length xs ≤ n → flat_map f (take n xs) ≡ [] → flat_map f xs ≡ []
none-all f xs n past before = ap (flat_map f) (sym (take_all n xs past)) ∙ before

-- The squares of bits, taken out one by one, the least first.
use Rattle.std.proofs.Common.{ℕ, ◌≡◌, ◌<◌, ◌+◌, ◌*◌, ◌⊎◌, ◌↔◌, ◌++◌, ◌∷◌, [], inl, inr, sym, ◌∙◌, subst, List, true, false, true≢false}
use Rattle.std.proofs.Common.{Contains, arith, get_or, length}
use Rattle.std.specs.List.Sorted.{IsStrictlyIncreasing}
use Rattle.std.proofs.lemmas.Bool.{cases_eq, cases_lt}
use Rattle.std.proofs.lemmas.List.{length_push, get_or_append_left, get_or_push}
use Rattle.std.proofs.lemmas.List.Elements.{Contains-append_left, Contains-get_or, Contains-push, Contains-push_cases}
use Rattle.std.proofs.lemmas.Map.Keys.{sorted_from_strictly_increasing}
use Rattle.std.proofs.lemmas.Map.Views.{length-le_from_below}
use Rattle.sok_field.specs.Numbers.{has_number, IsLeast}
use Rattle.sok_field.proofs.OneSquare.{has-within}
use Rattle.sok_region.specs.Regions.{squares_of}
use Rattle.sok_region.proofs.Regions.{Contains-squares_of, squares_of-rising}
use Rattle.sok_state.proofs.Placed.{same_rising}

-- the least squares of some words are listed, and the others are left
pub record IsUnpacked (words left squares : List ℕ) : Type 0 where
  pub whole : length left ≡ length words
  pub exact : (n : ℕ) → (has_number words n ≡ true) ↔ (Contains squares n ⊎ (has_number left n ≡ true))
  pub below : (m n : ℕ) → Contains squares m → has_number left n ≡ true → m < n
  pub rising : IsStrictlyIncreasing squares

rising-push : (xs : List ℕ) (x : ℕ) → IsStrictlyIncreasing xs → ((m : ℕ) → Contains xs m → m < x) → IsStrictlyIncreasing (xs ++ x ∷ [])
rising-push xs x rising below = λ k within.
    let long = length_push xs x in
    let here : k < length xs = omega (arith, within, long) in
    let first = get_or_append_left xs (x ∷ []) 0 k here in
    elim (cases_lt (k + 1) (length xs)) [
      | inl inside ↦ let second = get_or_append_left xs (x ∷ []) 0 (k + 1) inside in let old = rising k inside in omega (arith, first, second, old)
      | inr last ↦
          let second = get_or_push xs x 0 (k + 1) (omega (arith, within, long, last)) in
          let less = below _ (Contains-get_or xs k 0 here) in
          omega (arith, first, second, less)
    ]

pub IsUnpacked-more : (words left new squares : List ℕ) (x : ℕ) → length new ≡ length left → IsLeast (has_number left) x
    → ((n : ℕ) → (has_number new n ≡ true) ↔ ((n ≡ x → ⊥) × (has_number left n ≡ true))) → IsUnpacked words left squares
    → IsUnpacked words new (squares ++ x ∷ [])
IsUnpacked-more words left new squares x long least taken unpacked = record {
  whole = long ∙ unpacked.whole;
  exact = λ n. (
    λ e. elim ((unpacked.exact n).0 e) [
      | inl before ↦ inl (Contains-append_left squares (x ∷ []) n before)
      | inr there ↦ elim (cases_eq n x) [
        | inl same ↦ inl (subst (Contains (squares ++ x ∷ [])) (sym same) (Contains-push squares x))
        | inr other ↦ inr ((taken n).1 (other, there))
      ]
    ],
    λ one. (unpacked.exact n).1 (elim one [
      | inr stays ↦ inr ((taken n).0 stays).1
      | inl listed ↦ elim (Contains-push_cases squares x n listed) [
        | inl before ↦ inl before
        | inr same ↦ inr (subst (λ m. has_number left m ≡ true) same least.among)
      ]
    ]),
  );
  below = λ m n listed stays.
      let (other, there) = (taken n).0 stays in
      elim (Contains-push_cases squares x m listed) [
        | inl before ↦ unpacked.below m n before there
        | inr same ↦ let low = least.least n there in omega (arith, same, low, other)
      ];
  rising = rising-push squares x unpacked.rising (λ m listed. unpacked.below m x listed least.among);
}

-- where one is left, the list has fewer squares than there are bits
pub IsUnpacked-fewer : (words left squares : List ℕ) (x : ℕ) → has_number left x ≡ true → IsUnpacked words left squares
    → length squares < 64 * length words
IsUnpacked-fewer words left squares x stays unpacked =
    let lower = length-le_from_below x squares (sorted_from_strictly_increasing squares unpacked.rising)
    (λ k d within. unpacked.below (get_or squares k d) x (Contains-get_or squares k d within) stays) in
    let word = has-within words _ ((unpacked.exact x).1 (inr stays)) in
    omega (arith, lower, word)

-- where none is left, the list has them all
pub IsUnpacked-all : (words left squares : List ℕ) → IsUnpacked words left squares → ((n : ℕ) → has_number left n ≡ false) → squares ≡ squares_of words
IsUnpacked-all words left squares unpacked none =
    same_rising squares (squares_of words) unpacked.rising (squares_of-rising words)
    (λ n listed. (Contains-squares_of words n).1 ((unpacked.exact n).1 (inl listed)))
    (λ n there. elim ((unpacked.exact n).0 ((Contains-squares_of words n).0 there)) [
      | inl listed ↦ listed
      | inr stays ↦ absurd (true≢false (sym stays ∙ none n))
    ])

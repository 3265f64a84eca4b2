-- Boxes as bits by number.
use Rattle.std.proofs.Common.{ℕ, ◌≡◌, ◌⊎◌, ◌↔◌, ◌++◌, ◌∷◌, [], inl, inr, sym, ◌∙◌, subst, List, true, false, true≢false, Contains, arith}
use Rattle.std.specs.List.Sorted.{IsStrictlyIncreasing}
use Rattle.std.proofs.lemmas.List.Elements.{Contains-append_left, Contains-push, Contains-push_cases}
use Rattle.sok_field.specs.Numbers.{has_number}
use Rattle.sok_board.specs.BoxSets.{IsMoved}
use Rattle.sok_region.specs.Regions.{squares_of}
use Rattle.sok_region.proofs.Regions.{Contains-squares_of, squares_of-rising}
use Rattle.sok_state.proofs.Placed.{same_rising}

-- the bits that are set are those of some squares
pub record IsPacked (words some : List ℕ) : Type 0 where
  pub exact : (n : ℕ) → (has_number words n ≡ true) ↔ Contains some n

pub IsPacked-none : (words : List ℕ) → ((n : ℕ) → has_number words n ≡ false) → IsPacked words []
IsPacked-none words none = record { exact = λ n. (λ e. absurd (true≢false (sym e ∙ none n)), λ (k, within, is). absurd (omega (arith, within))) }

pub IsPacked-more : (old new some : List ℕ) (x : ℕ) → ((n : ℕ) → (has_number new n ≡ true) ↔ ((n ≡ x) ⊎ (has_number old n ≡ true))) → IsPacked old some
    → IsPacked new (some ++ x ∷ [])
IsPacked-more old new some x put packed = record {
  exact = λ n. (
    λ e. elim ((put n).0 e) [
      | inl same ↦ subst (Contains (some ++ x ∷ [])) (sym same) (Contains-push some x)
      | inr there ↦ Contains-append_left some (x ∷ []) n ((packed.exact n).0 there)
    ],
    λ there. (put n).1 (elim (Contains-push_cases some x n there) [ inl before ↦ inr ((packed.exact n).1 before) | inr is ↦ inl (sym is) ]),
  );
}

-- so the squares are those
pub squares_of-packed : (words boxes : List ℕ) → IsStrictlyIncreasing boxes → IsPacked words boxes → squares_of words ≡ boxes
squares_of-packed words boxes rising packed =
    same_rising (squares_of words) boxes (squares_of-rising words) rising
    (λ n there. (packed.exact n).0 ((Contains-squares_of words n).0 there))
    (λ n there. (Contains-squares_of words n).1 ((packed.exact n).1 there))

-- one bit less, and one more
pub IsMoved-packed : (old mid new : List ℕ) (from to : ℕ) → ((n : ℕ) → (has_number mid n ≡ true) ↔ ((n ≡ from → ⊥) × (has_number old n ≡ true)))
    → ((n : ℕ) → (has_number new n ≡ true) ↔ ((n ≡ to) ⊎ (has_number mid n ≡ true))) → IsMoved (squares_of old) from to (squares_of new)
IsMoved-packed old mid new from to taken put n = (
  λ there. elim ((put n).0 ((Contains-squares_of new n).0 there)) [
    | inl come ↦ inl come
    | inr stays ↦ let (other, before) = (taken n).0 stays in inr ((Contains-squares_of old n).1 before, other)
  ],
  λ one. (Contains-squares_of new n).1 ((put n).1 (elim one [
    | inl come ↦ inl come
    | inr (before, other) ↦ inr ((taken n).1 (other, (Contains-squares_of old n).0 before))
  ])),
)

-- The first of a list at which a test passes, and the id that a word is.
use Rattle.std.proofs.Common.{ℕ, ◌≡◌, ◌∙◌, ◌≤◌, ◌<◌, ◌^◌, ◌&&◌, inl, inr, FitsSigned, List, Bool, true, false, Option, Some, None, ap, arith, cond, if◌then◌else◌, length, nat_lt, pos, position, refl, sym, w64}
use Rattle.std.proofs.lemmas.Bool.{cases_Bool}
use Rattle.std.proofs.lemmas.Bool.Decides.{nat_tests}
use Rattle.std.proofs.lemmas.Option.{none-some, same_Some}
use Rattle.std.specs.Char.{is_ascii_digit}
use Rattle.std.specs.List.{list_all, position_or_len}
use Rattle.std.specs.Str.Parse.{digits_value}
use Rattle.sok_keep.proofs.Ids.{fits}
use Rattle.sok_settle.specs.Offers.{word_id}

module _ {X : Type 0} (p : X → Bool) (xs : List X) where
  abbrev found : Bool → Option ℕ
  found b = cond b (Some (position_or_len p xs)) None

  pub place_found : (k : ℕ) → position p xs ≡ Some k → position_or_len p xs ≡ k
  place_found k is = elim (cases_Bool (nat_lt (position_or_len p xs) (length xs))) [
    | inl inside ↦ same_Some (position_or_len p xs) k (sym (ap found inside) ∙ is)
    | inr past ↦ absurd (none-some k (sym (ap found past) ∙ is))
  ]

  pub place_none : position p xs ≡ None → length xs ≤ position_or_len p xs
  place_none is = elim (cases_Bool (nat_lt (position_or_len p xs) (length xs))) [
    | inl inside ↦ absurd (none-some (position_or_len p xs) (sym is ∙ ap found inside))
    | inr past ↦ grind (arith, nat_tests)
  ]

-- the id that a word is fits
pub word_fits : (word : List ℕ) → FitsSigned w64 (pos (word_id word))
word_fits word = fits (pos (word_id word)) (small (list_all is_ascii_digit word) (nat_lt (digits_value 10 word) 4294967296) refl)
  where
    small : (digits few : Bool) → nat_lt (digits_value 10 word) 4294967296 ≡ few → (if digits && few then digits_value 10 word else 0) < 2 ^ 63
    small true true is = grind (arith, nat_tests)
    small true false is = omega arith
    small false few is = omega arith

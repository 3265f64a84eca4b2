-- Decimal numbers and the words that spell them.
use Rattle.std.proofs.Common.{ℕ, ◌≡◌, ◌<◌, List, Option, Some, None, length, get_or, decimal, sym, ap, ◌∙◌, subst, inl, inr, arith}
use Rattle.std.proofs.lemmas.Fmt.{decimal_is_IsNumeral, decimal-digits_value, decimal_digit, first_decimal}
use Rattle.std.proofs.lemmas.Bool.{cases_lt}
use Rattle.std.proofs.lemmas.Str.Parse.{IsNumeralModel, numerals_by_value, tells_digits}
use Rattle.std.specs.Str.Parse.{AllDigits, digits_value, IsNumeral}
use Rattle.sok_entry.specs.Text.{IsSmall}
use Rattle.sok_entry.specs.Reading.{Tells}

own : IsNumeralModel (AllDigits 10) (digits_value 10)
own = numerals_by_value (AllDigits 10) tells_digits

pub IsNumeral-decimal : (n : ℕ) → IsSmall n → IsNumeral 10 (decimal n)
IsNumeral-decimal n small = (decimal_is_IsNumeral n (omega arith)).0

pub value-decimal : (n : ℕ) → IsSmall n → digits_value 10 (decimal n) ≡ n
value-decimal n small = (decimal_is_IsNumeral n (omega arith)).1

-- a decimal does not begin with a zero before other digits
pub decimal-lead : (n : ℕ) → IsSmall n → 1 < length (decimal n) → get_or (decimal n) 0 0 ≡ 48 → ⊥
decimal-lead n small long zero = elim (cases_lt 0 n) [
  | inl positive ↦ omega (arith, first_decimal n positive (omega arith))
  | inr none ↦ omega (arith, ap length (decimal_digit n (omega arith)))
]

-- a word of digits with no leading zero is the decimal of its value, and of no other number
pub Tells-value : (word : List ℕ) → 0 < length word → (1 < length word → get_or word 0 0 ≡ 48 → ⊥) → (found : Option ℕ)
    → Tells (λ n. IsSmall n × AllDigits 10 word × (n ≡ digits_value 10 word)) found → Tells (λ n. IsSmall n × (word ≡ decimal n)) found
Tells-value word some lead None none = λ n h.
    let digits : AllDigits 10 word = subst (AllDigits 10) (sym h.1) (IsNumeral-decimal n h.0).1 in
    none n (h.0, digits, sym (ap (digits_value 10) h.1 ∙ value-decimal n h.0))
Tells-value word some lead (Some n) h =
    let small : IsSmall n = h.0 in
    let value : n ≡ digits_value 10 word = h.2 in
    let one : get_or word 0 0 ≡ 48 → length word ≡ 1 =
    λ zero. elim (cases_lt 1 (length word)) [ inl long ↦ absurd (lead long zero) | inr short ↦ omega arith ] in
    (small, sym (ap decimal value ∙ decimal-digits_value own word h.1 some one (omega arith)))

-- What the getters give of the matches of a form.
use Rattle.std.proofs.Common.{ℤ, arith, ◌≡◌, ◌∙◌, ◌<◌, ◌^◌, ℕ, refl, ap, Option, Some, None}
use Rattle.std.specs.Prelude.{FitsSigned}
use Rattle.std.proofs.lemmas.Int.{ints, to_z-of_z}
use mir.Val.{of_z, to_z}
use mir.Syntax.{w64}
use Rattle.std.specs.Str.Parse.{ExplainsSignedError, HasSignedDigitsIfOk, IsNumeral, ParsesSigned, digits_value, signed_digits_value, without_leading_plus, without_leading_sign}
use Rattle.clap.specs.Matches.{ReadsOne, one_text}
use Rattle.clap.specs.Walk.{Text, rows_of}
use Rattle.clap.specs.declared.parser.matches.Found.{Found}
use Rattle.clap.proofs.WalkLemmas.{one_text-rows}
use Rattle.sok_words.specs.Forms.{IsId, IsNumber, IsPushes, id_value}
use Rattle.sok_words.specs.Rows.{HasNumber, HasOptionalId, HasPushes}
use Rattle.sok_words.proofs.WordSteps.{no_minus, no_plus}
use Rattle.sok_words.proofs.Lines.{minus_free}

pub number_there : (f : Found) (name digits : Text) (number : ℕ) → HasNumber (rows_of f) name digits number → one_text f name ≡ Some digits
number_there f name digits number has = one_text-rows f name ∙ has.1 ∙ ap (λ t. Some t) (minus_free digits has.0)

-- digits of a number of pushes are those of a number
pub pushes_number : (text : Text) → IsPushes text → IsNumber text
pushes_number text n = let small = n.1 in (n.0, omega (arith, small))

pub pushes_there : (f : Found) (name : Text) (digits : Option Text) → HasPushes (rows_of f) name digits → one_text f name ≡ digits
pushes_there f name None has = one_text-rows f name ∙ has.1
pushes_there f name (Some digits) has = one_text-rows f name ∙ has.1 ∙ ap (λ t. Some t) (minus_free digits (pushes_number digits has.0))

pub number_read : (text : Text) (x : ℕ) → IsNumber text → x ≡ digits_value 10 (without_leading_plus text) → x ≡ digits_value 10 text
number_read text x n e = e ∙ ap (digits_value 10) (no_plus text n.0)

pub number_parses : (text : Text) → IsNumber text → IsNumeral 10 (without_leading_plus text) × (digits_value 10 (without_leading_plus text) < 2 ^ 32)
number_parses text n = rw (no_plus text n.0) n

-- ---- ids

pub id_there : (f : Found) (name : Text) (digits : Option Text) → HasOptionalId (rows_of f) name digits → one_text f name ≡ digits
id_there f name digits has = one_text-rows f name ∙ has.1

signed : (text : Text) → IsId text → signed_digits_value 10 text ≡ id_value text
signed text n = rw (no_minus text n.0, no_plus text n.0) refl

id_fits : (text : Text) → IsId text → FitsSigned w64 (id_value text)
id_fits text n = omega (arith, ints)

pub id_read : (text : Text) (x : ℤ) → IsId text → x ≡ id_value text → to_z w64 (of_z w64 x) ≡ id_value text
id_read text x n e = ap (λ z. to_z w64 (of_z w64 z)) e ∙ to_z-of_z w64 (id_value text) (id_fits text n)

id_parses : (text : Text) → IsId text → IsNumeral 10 (without_leading_sign text) × FitsSigned w64 (signed_digits_value 10 text)
id_parses text n = (rw (no_minus text n.0, no_plus text n.0) n.0, rw (signed text n) (id_fits text n))

-- what is read of an id
pub id_given : (id : Option ℤ) (text : Text) → IsId text
    → ReadsOne (λ bytes told. ParsesSigned w64 10 bytes told × ExplainsSignedError 10 bytes told × HasSignedDigitsIfOk bytes told) text id
    → id ≡ Some (id_value text)
id_given None text is (fault, reads) = absurd (reads.0 (id_parses text is))
id_given (Some x) text is reads = ap (λ z. Some z) (reads.0.1 ∙ signed text is)

-- How a text is cut into marks.
use Rattle.std.proofs.Common.{ℕ, ◌≡◌, ◌<◌, List, [], ◌∷◌, ◌++◌, Option, false, true, true≢false, Some, None, All, flat_map, get_or, length, refl, sym, ap, subst, ◌∙◌, arith}
use Rattle.std.proofs.lemmas.Bool.Decides.{nat_tests}
use Rattle.std.proofs.lemmas.List.{append_assoc, append-nil}
use Rattle.std.proofs.lemmas.List.Elements.{All-head, All-tail}
use Rattle.std.specs.Char.{is_ascii_digit}
use Rattle.std.specs.List.{AllPass}
use Rattle.sok_text.specs.Counts.{starts_with_digit}
use Rattle.sok_text.specs.Packed.{Mark, ReadsAs, is_mark, mark_text, marks_of, with_digit}
use Rattle.sok_text.proofs.Lines.{behind_first, behind_first-cons}

-- digits and another byte are a mark
pub marks_of-mark : (digits : List ℕ) (c : ℕ) (rest : List ℕ) → AllPass is_ascii_digit digits → is_ascii_digit c ≡ false
    → marks_of (digits ++ c ∷ rest) ≡ record { digits = digits; byte = Some c } ∷ marks_of rest
marks_of-mark [] c rest all other = rw other
marks_of-mark (d ∷ digits) c rest all other =
    let P : ℕ → Type 0 = λ x. is_ascii_digit x ≡ true in
    let digit = All-head P d digits all in
    let first : marks_of (d ∷ (digits ++ c ∷ rest)) ≡ with_digit d (marks_of (digits ++ c ∷ rest)) = rw digit in
    first ∙ ap (with_digit d) (marks_of-mark digits c rest (All-tail P d digits all) other)

-- digits alone are one without a byte
pub marks_of-digits : (d : ℕ) (digits : List ℕ) → AllPass is_ascii_digit (d ∷ digits) → marks_of (d ∷ digits) ≡ record { digits = d ∷ digits; byte = None } ∷ []
marks_of-digits d [] all =
    let digit : is_ascii_digit d ≡ true = All-head (λ x. is_ascii_digit x ≡ true) d [] all in
    rw digit
marks_of-digits d (e ∷ digits) all =
    let P : ℕ → Type 0 = λ x. is_ascii_digit x ≡ true in
    let digit = All-head P d (e ∷ digits) all in
    let first : marks_of (d ∷ e ∷ digits) ≡ with_digit d (marks_of (e ∷ digits)) = rw digit in
    first ∙ ap (with_digit d) (marks_of-digits e digits (All-tail P d (e ∷ digits) all))

-- what is left begins with a mark
pub marks_of-behind : (left digits behind : List ℕ) → left ≡ digits ++ behind → AllPass is_ascii_digit digits → starts_with_digit behind ≡ false → 0 < length behind
    → marks_of left ≡ record { digits = digits; byte = Some (get_or behind 0 0) } ∷ marks_of (behind_first behind)
marks_of-behind left digits [] whole all other some = absurd (omega arith)
marks_of-behind left digits (c ∷ rest) whole all other some =
    ap marks_of whole ∙ marks_of-mark digits c rest all other
    ∙ ap (λ behind. record { digits = digits; byte = Some c } ∷ marks_of behind) (sym (behind_first-cons c rest))

-- or is digits alone
pub marks_of-end : (left digits behind : List ℕ) → 0 < length left → left ≡ digits ++ behind → AllPass is_ascii_digit digits → length behind ≡ 0
    → marks_of left ≡ record { digits = left; byte = None } ∷ []
marks_of-end left digits (c ∷ rest) some whole all empty = absurd (omega arith)
marks_of-end [] digits [] some whole all empty = absurd (omega arith)
marks_of-end (c ∷ left) digits [] some whole all empty = marks_of-digits c left (subst (AllPass is_ascii_digit) (sym (whole ∙ append-nil digits)) all)

-- the byte of a mark is no digit
mark-byte : (digits : List ℕ) (c : ℕ) → is_mark (record { digits = digits; byte = Some c }) ≡ true → is_ascii_digit c ≡ false
mark-byte digits c is = grind (arith, nat_tests)

-- one more mark before those of a text
marks_of-before : (digits : List ℕ) (byte : Option ℕ) (marks : List Mark) (rest : List ℕ) → AllPass is_ascii_digit digits
    → is_mark (record { digits = digits; byte = byte }) ≡ true → marks ≡ marks_of rest
    → record { digits = digits; byte = byte } ∷ marks ≡ marks_of (mark_text (record { digits = digits; byte = byte }) ++ rest)
marks_of-before digits None marks rest all is same = absurd (true≢false (sym is))
marks_of-before digits (Some c) marks rest all is same =
    ap (λ (ms : List Mark). record { digits = digits; byte = Some c } ∷ ms) same
    ∙ sym (ap marks_of (append_assoc digits (c ∷ []) rest) ∙ marks_of-mark digits c rest all (mark-byte digits c is))

-- marks are those of their text
marks_of-texts : (marks : List Mark) → All (λ mark. AllPass is_ascii_digit mark.digits) marks → AllPass is_mark marks → marks ≡ marks_of (flat_map mark_text marks)
marks_of-texts [] digits are = refl
marks_of-texts (mark ∷ marks) digits are =
    let D : Mark → Type 0 = λ m. AllPass is_ascii_digit m.digits in
    let M : Mark → Type 0 = λ m. is_mark m ≡ true in
    marks_of-before mark.digits mark.byte marks (flat_map mark_text marks) (All-head D mark marks digits) (All-head M mark marks are)
    (marks_of-texts marks (All-tail D mark marks digits) (All-tail M mark marks are))

pub marks_are_one : (line : List ℕ) (marks : List Mark) → ReadsAs line marks → marks ≡ marks_of line
marks_are_one line marks read = marks_of-texts marks read.digits read.are ∙ ap marks_of (sym read.text)

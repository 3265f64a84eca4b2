-- A text and its lines: the first line, and a front of whole lines.
use Rattle.std.proofs.Common.{ℕ, ◌≡◌, ◌<◌, ◌≤◌, ◌+◌, List, [], ◌∷◌, ◌++◌, Some, None, true, false, if◌then◌else◌, nat_lt}
use Rattle.std.proofs.Common.{length, take, drop, position, sym, ap, ◌∙◌, refl, subst, inl, inr, arith}
use Rattle.std.proofs.lemmas.Bool.{cases_Bool, eqb-true, ne_eqb}
use Rattle.std.proofs.Common.{◌-◌, ◌==◌, slice_index}
use Rattle.std.proofs.lemmas.Bool.Decides.{nat_tests}
use Rattle.std.proofs.lemmas.Option.{none-some}
use Rattle.std.proofs.lemmas.List.{take-append-drop, take_more, drop_all, take_all, append_assoc, append-nil, length-drop, length-take, get_or-take}
use Rattle.std.proofs.lemmas.List.Splits.{slice_split_at, slice_split_none, length-slice_split}
use Rattle.std.proofs.lemmas.List.Sums.{fails_before_first, passes_at_first}
use Rattle.std.specs.List.{position_or_len, before_first, slice_split}
use Rattle.std.specs.Str.Lines.{lines, lines_of_parts, strip_carriage_return}
use Rattle.sok_text.specs.Lines.{is_newline, first_line, after_line, IsCutAtEnd, IsLineEnd, IsUnended}

-- a text without its first byte, as code cuts it
abbrev pub behind_first : List ℕ → List ℕ
behind_first text = take (length text - 1) (drop 1 text)

pub behind_first-cons : (c : ℕ) (left : List ℕ) → behind_first (c ∷ left) ≡ left
behind_first-cons c left = ap (λ n. take n left) (omega arith) ∙ take_all (length left) left (omega arith)

-- where the first line ends
abbrev pub end_of : List ℕ → ℕ
end_of text = position_or_len is_newline text

has_end : (text : List ℕ) (end : ℕ) → position is_newline text ≡ Some end → (nat_lt (end_of text) (length text) ≡ true) × (end_of text ≡ end)
has_end text end some = elim (cases_Bool (nat_lt (end_of text) (length text))) [
  | inl found ↦
      let e : Some (end_of text) ≡ Some end = sym (ap (λ b. if b then Some (end_of text) else None) found) ∙ some in
      (found, cc)
  | inr past ↦ absurd (none-some end (sym (ap (λ b. if b then Some (end_of text) else None) past) ∙ some))
]

has_no_end : (text : List ℕ) → position is_newline text ≡ None → nat_lt (end_of text) (length text) ≡ false
has_no_end text none = elim (cases_Bool (nat_lt (end_of text) (length text))) [
  | inl found ↦ absurd (none-some (end_of text) (sym none ∙ ap (λ b. if b then Some (end_of text) else None) found))
  | inr past ↦ past
]

pub first_line-some : (text : List ℕ) (end : ℕ) → position is_newline text ≡ Some end → first_line text ≡ strip_carriage_return (take end text)
unfolding first_line
first_line-some text end some =
    let found = has_end text end some in
    ap (λ b. if b then strip_carriage_return (take (end_of text) text) else text) found.0 ∙ ap (λ n. strip_carriage_return (take n text)) found.1

pub after_line-some : (text : List ℕ) (end : ℕ) → position is_newline text ≡ Some end → after_line text ≡ drop (end + 1) text
unfolding after_line
after_line-some text end some = ap (λ n. drop (n + 1) text) (has_end text end some).1

pub first_line-none : (text : List ℕ) → position is_newline text ≡ None → first_line text ≡ text
unfolding first_line
first_line-none text none = ap (λ b. if b then strip_carriage_return (take (end_of text) text) else text) (has_no_end text none)

after_line-past : (text : List ℕ) → nat_lt (end_of text) (length text) ≡ false → after_line text ≡ []
unfolding after_line
after_line-past text past = drop_all (end_of text + 1) text (grind (arith, nat_tests))

pub after_line-none : (text : List ℕ) → position is_newline text ≡ None → after_line text ≡ []
after_line-none text none = after_line-past text (has_no_end text none)

-- the bytes of the first line, with its end
unfoldable pub head_of : List ℕ → List ℕ
head_of text = take (end_of text + 1) text

pub head_of-append-after_line : (text : List ℕ) → text ≡ head_of text ++ after_line text
unfolding head_of after_line
head_of-append-after_line text = sym (take-append-drop (end_of text + 1) text)

pub length-after_line : (text : List ℕ) → 0 < length text → length (after_line text) < length text
unfolding after_line
length-after_line text some = omega (arith, length-drop (end_of text + 1) text)

pub lines_of_parts-cons : (x : List ℕ) (parts : List (List ℕ)) → 0 < length parts → lines_of_parts (x ∷ parts) ≡ strip_carriage_return x ∷ lines_of_parts parts
lines_of_parts-cons x [] some = absurd (omega arith)
lines_of_parts-cons x (y ∷ more) some = refl

-- lines after a line end
pub lines-newline : (front more : List ℕ) → IsUnended front → lines (front ++ 10 ∷ more) ≡ strip_carriage_return front ∷ lines more
lines-newline front more none =
    ap lines_of_parts (slice_split_at is_newline front 10 more none refl)
    ∙ lines_of_parts-cons front (slice_split is_newline more) (omega (arith, length-slice_split is_newline more))

-- a text without a line end
pub lines-last : (text : List ℕ) → 0 < length text → IsUnended text → lines text ≡ text ∷ []
lines-last text some none = ap lines_of_parts (slice_split_none is_newline text none)
    ∙ ap (λ b. if b then [] else text ∷ []) (ne_eqb (length text) 0 (λ e. omega arith))

none_before : (text : List ℕ) (n : ℕ) → n ≤ end_of text → IsUnended (take n text)
none_before text n within k d inside =
    let short : k < n = omega (arith, length-take n text) in
    ap is_newline (get_or-take n text k d short) ∙ fails_before_first is_newline text k d (omega arith)

none_in : (text : List ℕ) → nat_lt (end_of text) (length text) ≡ false → IsUnended text
none_in text past =
    let long : length text ≤ end_of text = grind (arith, nat_tests) in
    λ k d inside. fails_before_first is_newline text k d (omega arith)

within : (text : List ℕ) → nat_lt (end_of text) (length text) ≡ true → end_of text < length text
within text found = grind (arith, nat_tests)

-- a text whose first line has an end
head-newline : (text : List ℕ) → end_of text < length text → head_of text ≡ before_first is_newline text ++ 10 ∷ []
unfolding head_of
head-newline text ended =
    take_more text (end_of text) 0 ended
    ∙ ap (λ byte. before_first is_newline text ++ byte ∷ []) (eqb-true _ 10 (passes_at_first is_newline text 0 ended))

lines-head_of-append : (text more : List ℕ) → end_of text < length text
    → lines (head_of text ++ more) ≡ strip_carriage_return (before_first is_newline text) ∷ lines more
lines-head_of-append text more ended =
    ap (λ head. lines (head ++ more)) (head-newline text ended) ∙ ap lines (append_assoc (before_first is_newline text) (10 ∷ []) more)
    ∙ lines-newline (before_first is_newline text) more (none_before text (end_of text) (omega arith))

first_line-found : (text : List ℕ) → nat_lt (end_of text) (length text) ≡ true → first_line text ≡ strip_carriage_return (before_first is_newline text)
unfolding first_line
first_line-found text found = ap (λ b. if b then strip_carriage_return (before_first is_newline text) else text) found

first_line-past : (text : List ℕ) → nat_lt (end_of text) (length text) ≡ false → first_line text ≡ text
unfolding first_line
first_line-past text past = ap (λ b. if b then strip_carriage_return (before_first is_newline text) else text) past

lines-past : (text : List ℕ) → 0 < length text → nat_lt (end_of text) (length text) ≡ false → lines text ≡ first_line text ∷ []
lines-past text some past = lines-last text some (none_in text past) ∙ ap (λ line. line ∷ []) (sym (first_line-past text past))

lines-found : (text more : List ℕ) → nat_lt (end_of text) (length text) ≡ true → lines (head_of text ++ more) ≡ first_line text ∷ lines more
lines-found text more found = lines-head_of-append text more (within text found) ∙ ap (λ line. line ∷ lines more) (sym (first_line-found text found))

head_of-past : (text : List ℕ) → nat_lt (end_of text) (length text) ≡ false → head_of text ≡ text
unfolding head_of
head_of-past text past = take_all (end_of text + 1) text (grind (arith, nat_tests))

-- the first line of a text, and the rest
pub lines-first : (text : List ℕ) → 0 < length text → lines text ≡ first_line text ∷ lines (after_line text)
lines-first text some = elim (cases_Bool (nat_lt (end_of text) (length text))) [
  | inl found ↦ ap lines (head_of-append-after_line text) ∙ lines-found text (after_line text) found
  | inr past ↦ lines-past text some past ∙ ap (λ rest. first_line text ∷ lines rest) (sym (after_line-past text past))
]

pub lines-head_of : (text : List ℕ) → 0 < length text → lines (head_of text) ≡ first_line text ∷ []
lines-head_of text some = elim (cases_Bool (nat_lt (end_of text) (length text))) [
  | inl found ↦ ap lines (sym (append-nil (head_of text))) ∙ lines-found text [] found
  | inr past ↦ ap lines (head_of-past text past) ∙ lines-past text some past
]

-- behind its first line a text can be cut
pub IsLineEnd-head_of : (text : List ℕ) → 0 < length text → IsLineEnd (head_of text) (after_line text)
IsLineEnd-head_of text some = elim (cases_Bool (nat_lt (end_of text) (length text))) [
  | inl found ↦ inr (λ more. lines-found text more found ∙ ap (λ ls. ls ++ lines more) (sym (lines-head_of text some)))
  | inr past ↦ inl (after_line-past text past)
]

length-strip : (line : List ℕ) → length (strip_carriage_return line) ≤ length line
length-strip line = elim (cases_Bool (slice_index line (length line - 1) == 13)) [
  | inl return ↦ omega (arith, ap (λ b. length (if b then take (length line - 1) line else line)) return, length-take (length line - 1) line)
  | inr plain ↦ omega (arith, ap (λ b. length (if b then take (length line - 1) line else line)) plain)
]

-- without its carriage return a line is shorter by one byte at most
pub length-strip_most : (line : List ℕ) → length line ≤ length (strip_carriage_return line) + 1
length-strip_most line = elim (cases_Bool (slice_index line (length line - 1) == 13)) [
  | inl return ↦ omega (arith, ap (λ b. length (if b then take (length line - 1) line else line)) return, length-take (length line - 1) line)
  | inr plain ↦ omega (arith, ap (λ b. length (if b then take (length line - 1) line else line)) plain)
]

-- ---- cut at the first LF

pub IsUnended-none : (text : List ℕ) → position is_newline text ≡ None → IsUnended text
IsUnended-none text none = none_in text (has_no_end text none)

pub IsCutAtEnd-some : (text : List ℕ) (end : ℕ) → position is_newline text ≡ Some end → IsCutAtEnd text (take end text) (drop (end + 1) text)
IsCutAtEnd-some text end some =
    let found = has_end text end some in
    let front = before_first is_newline text in
    let whole : text ≡ front ++ 10 ∷ after_line text =
    head_of-append-after_line text ∙ ap (λ head. head ++ after_line text) (head-newline text (within text found.0))
    ∙ append_assoc front (10 ∷ []) (after_line text) in
    record {
      whole = whole ∙ (λ i. take (found.1 i) text ++ 10 ∷ after_line-some text end some i);
      unended = subst (λ n. IsUnended (take n text)) found.1 (none_before text (end_of text) (omega arith));
    }

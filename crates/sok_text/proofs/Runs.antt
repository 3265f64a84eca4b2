-- Passing over the lines of one kind.
use Rattle.std.proofs.Common.{ℕ, ◌≡◌, ◌<◌, ◌≤◌, ◌+◌, ◌-◌, List, [], ◌∷◌, ◌++◌, false, length, take, sym, ap, ◌∙◌}
use Rattle.std.proofs.Common.{refl, subst, inl, inr, arith, ◌==◌}
use Rattle.std.proofs.lemmas.List.{append_assoc, append-nil, take_at, length-append}
use Rattle.std.proofs.lemmas.List.Elements.{All-push}
use Rattle.std.proofs.lemmas.Bool.Decides.{nat_tests}
use Rattle.std.specs.Str.Lines.{lines}
use Rattle.sok_text.specs.declared.kind.Kind.{Kind}
use Rattle.sok_text.specs.declared.kind.Kind.TheVariants.{Row, Packed}
use Rattle.sok_text.specs.Kinds.{kind_of, AreOf, StartsOther, IsBoard, rows, packed}
use Rattle.sok_text.specs.Lines.{first_line, after_line, IsLineEnd, Passes, PassesBoard}
use Rattle.sok_text.proofs.Lines.{head_of, head_of-append-after_line, lines-first, lines-head_of, IsLineEnd-head_of}

-- at a place where a text can be cut
pub lines-cut : (front rest : List ℕ) → IsLineEnd front rest → lines (front ++ rest) ≡ lines front ++ lines rest
lines-cut front rest (inl done) =
    ap (λ more. lines (front ++ more)) done ∙ ap lines (append-nil front) ∙ sym (append-nil (lines front)) ∙ ap (λ more. lines front ++ lines more) (sym done)
lines-cut front rest (inr cut) = cut rest

-- where a rest is left, any text may stand after the front
cut_before : (front rest : List ℕ) → IsLineEnd front rest → 0 < length rest → (more : List ℕ) → lines (front ++ more) ≡ lines front ++ lines more
cut_before front rest (inl done) some = absurd (omega (arith, ap length done))
cut_before front rest (inr cut) some = cut

IsLineEnd-append : (front head rest : List ℕ) → ((more : List ℕ) → lines (front ++ more) ≡ lines front ++ lines more) → IsLineEnd head rest
    → IsLineEnd (front ++ head) rest
IsLineEnd-append front head rest before (inl done) = inl done
IsLineEnd-append front head rest before (inr cut) =
    inr (λ more. ap lines (append_assoc front head more) ∙ before (head ++ more) ∙ ap (λ ls. lines front ++ ls) (cut more)
    ∙ sym (append_assoc (lines front) (lines head) (lines more)) ∙ ap (λ ls. ls ++ lines more) (sym (before head)))

-- one more line is passed
pub Passes-more : (kind : Kind) (from here : List ℕ) → Passes kind from here → 0 < length here → kind_of (first_line here) ≡ kind
    → Passes kind from (after_line here)
Passes-more kind from here passed some same =
    let before = cut_before passed.front here passed.cut some in
    let grown : lines (passed.front ++ head_of here) ≡ lines passed.front ++ first_line here ∷ [] = before (head_of here)
    ∙ ap (λ ls. lines passed.front ++ ls) (lines-head_of here some) in
    record {
      front = passed.front ++ head_of here;
      whole = passed.whole ∙ ap (λ rest. passed.front ++ rest) (head_of-append-after_line here)
          ∙ sym (append_assoc passed.front (head_of here) (after_line here));
      cut = IsLineEnd-append passed.front (head_of here) (after_line here) before (IsLineEnd-head_of here some);
      same = subst (AreOf kind) (sym grown) (All-push (λ line. kind_of line ≡ kind) (lines passed.front) (first_line here) passed.same same);
    }

pub not_empty : (text : List ℕ) → length text == 0 ≡ false → 0 < length text
not_empty text full = grind (arith, nat_tests)

pub StartsOther-first : (kind : Kind) (text : List ℕ) → 0 < length text → (kind_of (first_line text) ≡ kind → ⊥) → StartsOther kind (lines text)
StartsOther-first kind text some other = subst (StartsOther kind) (sym (lines-first text some)) other

-- what is passed is the text before the rest
pub take-Passes : (kind : Kind) (from to : List ℕ) (passed : Passes kind from to) → take (length from - length to) from ≡ passed.front
take-Passes kind from to passed =
    let long : length from ≡ length passed.front + length to = ap length passed.whole ∙ length-append passed.front to in
    ap (λ text. take (length from - length to) text) passed.whole ∙ take_at passed.front to (length from - length to) (omega arith)

pub lines-Passes : (kind : Kind) (from to : List ℕ) (passed : Passes kind from to) → lines from ≡ lines passed.front ++ lines to
lines-Passes kind from to passed = ap lines passed.whole ∙ lines-cut passed.front to passed.cut

pub length-Passes : (kind : Kind) (from to : List ℕ) → Passes kind from to → length to ≤ length from
length-Passes kind from to passed = omega (arith, ap length passed.whole, length-append passed.front to)

-- a packed line is passed
pub PassesBoard-packed : (from : List ℕ) → 0 < length from → kind_of (first_line from) ≡ Packed → PassesBoard from (after_line from)
PassesBoard-packed from some same = record {
  front = head_of from;
  whole = head_of-append-after_line from;
  cut = IsLineEnd-head_of from some;
  board = packed (first_line from) (lines-head_of from some) same;
}

board_lines : (front : List (List ℕ)) (line : List ℕ) (more left : List (List ℕ)) → line ∷ more ≡ front ++ left → kind_of line ≡ Row → AreOf Row front
    → StartsOther Row left → IsBoard front left
board_lines [] line more left whole row same ends = absurd (subst (StartsOther Row) (sym whole) ends row)
board_lines (first ∷ front) line more left whole row same ends = rows first front refl same ends

-- lines of a board are passed
pub PassesBoard-rows : (from to : List ℕ) → Passes Row from to → StartsOther Row (lines to) → 0 < length from → kind_of (first_line from) ≡ Row → PassesBoard from to
PassesBoard-rows from to passed ends some row = record {
  front = passed.front;
  whole = passed.whole;
  cut = passed.cut;
  board = board_lines (lines passed.front) (first_line from) (lines (after_line from)) (lines to)
      (sym (lines-first from some) ∙ ap lines passed.whole ∙ lines-cut passed.front to passed.cut) row passed.same ends;
}

pub take-PassesBoard : (from to : List ℕ) (passed : PassesBoard from to) → take (length from - length to) from ≡ passed.front
take-PassesBoard from to passed =
    let long : length from ≡ length passed.front + length to = ap length passed.whole ∙ length-append passed.front to in
    ap (λ text. take (length from - length to) text) passed.whole ∙ take_at passed.front to (length from - length to) (omega arith)

pub lines-PassesBoard : (from to : List ℕ) (passed : PassesBoard from to) → lines from ≡ lines passed.front ++ lines to
lines-PassesBoard from to passed = ap lines passed.whole ∙ lines-cut passed.front to passed.cut

some_lines : (front left : List (List ℕ)) → IsBoard front left → 0 < length front
some_lines front left (rows line more whole same ends) = omega (arith, ap length whole)
some_lines front left (packed line whole same) = omega (arith, ap length whole)

has_bytes : (text : List ℕ) → 0 < length (lines text) → 0 < length text
has_bytes [] some = absurd (omega arith)
has_bytes (byte ∷ text) some = omega arith

pub length-PassesBoard : (from to : List ℕ) → PassesBoard from to → length to < length from
length-PassesBoard from to passed =
    let full = has_bytes passed.front (some_lines (lines passed.front) (lines to) passed.board) in
    omega (arith, ap length passed.whole, length-append passed.front to)

-- Texts without bars, which are read as before there were packed lines.
use Rattle.std.proofs.Common.{ℕ, ◌≡◌, ◌≤◌, ◌+◌, ◌-◌, List, [], ◌∷◌, Bool, true, false, All, ◌&&◌, ◌==◌, if◌then◌else◌, zero, suc}
use Rattle.std.proofs.Common.{length, nat_lt, take, slice_index, sym, ap, ◌∙◌, refl, subst, inl, inr, arith}
use Rattle.std.proofs.lemmas.Bool.{cases_Bool}
use Rattle.std.proofs.lemmas.List.Elements.{All-cons, All-drop, All-head, All-nil, All-tail, All-take}
use Rattle.std.specs.List.{list_all, list_any, position_or_len}
use Rattle.std.specs.Str.Lines.{lines, strip_carriage_return}
use Rattle.sok_text.specs.declared.kind.Kind.TheVariants.{Row, Packed, Note}
use Rattle.sok_text.specs.Collections.{Part, Parts, blocks_from, blocks_of, onto_board, parts_behind, parts_of, rows_of, starts_with_row}
use Rattle.sok_text.specs.Kinds.{kind_of, AreOf}
use Rattle.sok_text.specs.Lines.{after_line, first_line, is_newline}
use Rattle.sok_text.specs.Packed.{is_bar, is_packed_line, is_mark, marks_of}
use Rattle.sok_text.specs.Plain.{TextsReadPlain, plain_onto, plain_parts, plain_rows}
use Rattle.sok_text.specs.Xsb.{is_board_line}
use Rattle.sok_text.proofs.Cutting.{kind-board}
use Rattle.sok_text.proofs.Lines.{length-after_line, lines-first}
use Rattle.sok_text.proofs.Rows.{rows-board}

abbrev HasNone : List ℕ → Type 0
HasNone text = All (λ c. is_bar c ≡ false) text

none-strip : (text : List ℕ) → HasNone text → HasNone (strip_carriage_return text)
none-strip text none = elim (cases_Bool (slice_index text (length text - 1) == 13)) [
  | inl return ↦ subst HasNone (ap (λ b. if b then take (length text - 1) text else text) (sym return)) (All-take (λ c. is_bar c ≡ false) (length text - 1) text none)
  | inr other ↦ subst HasNone (ap (λ b. if b then take (length text - 1) text else text) (sym other)) none
]

none-first_line : (text : List ℕ) → HasNone text → HasNone (first_line text)
unfolding first_line
none-first_line text none =
    let end = position_or_len is_newline text in
    elim (cases_Bool (nat_lt end (length text))) [
      | inl found ↦ subst HasNone (ap (λ b. if b then strip_carriage_return (take end text) else text) (sym found))
          (none-strip (take end text) (All-take (λ c. is_bar c ≡ false) end text none))
      | inr past ↦ subst HasNone (ap (λ b. if b then strip_carriage_return (take end text) else text) (sym past)) none
    ]

none-after_line : (text : List ℕ) → HasNone text → HasNone (after_line text)
unfolding after_line
none-after_line text none = All-drop (λ c. is_bar c ≡ false) (position_or_len is_newline text + 1) text none

none-lines : (n : ℕ) (text : List ℕ) → length text ≤ n → HasNone text → All HasNone (lines text)
none-lines n [] short none = All-nil HasNone
none-lines zero (c ∷ text) short none = absurd (omega arith)
none-lines (suc n) (c ∷ text) short none =
    let cut = lines-first (c ∷ text) (omega arith) in
    let fewer = length-after_line (c ∷ text) (omega arith) in
    subst (All HasNone) (sym cut) (All-cons HasNone (first_line (c ∷ text)) (lines (after_line (c ∷ text))) (none-first_line (c ∷ text) none)
    (none-lines n (after_line (c ∷ text)) (omega arith) (none-after_line (c ∷ text) none)))

none-any : (line : List ℕ) → HasNone line → list_any is_bar line ≡ false
none-any [] none = refl
none-any (c ∷ line) none =
    let here : is_bar c ≡ false = All-head (λ b. is_bar b ≡ false) c line none in
    rw here (none-any line (All-tail (λ b. is_bar b ≡ false) c line none))

and-none : (b : Bool) → (b && false) ≡ false
and-none true = refl
and-none false = refl

-- a line without bars is no packed line
not_packed : (line : List ℕ) → HasNone line → is_packed_line line ≡ false
not_packed line none = ap (λ b. (list_all is_mark (marks_of line) && list_any (λ c. c == 35) line) && b) (none-any line none)
    ∙ and-none (list_all is_mark (marks_of line) && list_any (λ c. c == 35) line)

kind-note : (line : List ℕ) → HasNone line → is_board_line line ≡ false → kind_of line ≡ Note
kind-note line none other =
    ap (λ b. if b then Row else if is_packed_line line then Packed else Note) other ∙ ap (λ b. if b then Packed else Note) (not_packed line none)

abbrev RowParts : List Part → Type 0
RowParts [] = Unit {0}
RowParts (part ∷ parts) = (starts_with_row part.board ≡ true) × AreOf Row part.board × RowParts parts

-- lines are cut as before, into boards of lines of boards
record IsPlain (ls : List (List ℕ)) : Type 0 where
  same : parts_of ls ≡ plain_parts ls
  rows : RowParts (parts_of ls).boards

onto-plain : (line : List ℕ) (notes : List (List ℕ)) (boards : List Part) → RowParts boards → onto_board line notes boards ≡ plain_onto line notes boards
onto-plain line [] [] rows = refl
onto-plain line [] (first ∷ boards) rows =
    ap (λ b. if b then record { board = line ∷ first.board; after = first.after } ∷ boards else record { board = line ∷ []; after = [] } ∷ (first ∷ boards)) rows.0
onto-plain line (n ∷ notes) boards rows = refl

one : (line : List ℕ) → kind_of line ≡ Row → AreOf Row (line ∷ [])
one line same = All-cons (λ l. kind_of l ≡ Row) line [] same (All-nil (λ l. kind_of l ≡ Row))

onto-rows : (line : List ℕ) (notes : List (List ℕ)) (boards : List Part) → kind_of line ≡ Row → is_board_line line ≡ true → RowParts boards
    → RowParts (plain_onto line notes boards)
onto-rows line [] [] same board rows = (board, one line same, tt)
onto-rows line [] (first ∷ boards) same board rows = (board, All-cons (λ l. kind_of l ≡ Row) line first.board same rows.1, rows.2)
onto-rows line (n ∷ notes) boards same board rows = (board, one line same, rows)

plain : (ls : List (List ℕ)) → All HasNone ls → IsPlain ls
plain [] none = record { same = refl; rows = tt }
plain (line ∷ ls) none =
    let rest = plain ls (All-tail HasNone line ls none) in
    let parts = parts_of ls in
    elim (cases_Bool (is_board_line line)) [
      | inl board ↦
          let kind = kind-board line board in
          let here : parts_of (line ∷ ls) ≡ record { notes = []; boards = onto_board line parts.notes parts.boards } = ap (λ k. parts_behind k line parts) kind in
          let before : plain_parts (line ∷ ls) ≡ record { notes = []; boards = plain_onto line (plain_parts ls).notes (plain_parts ls).boards } =
          ap (λ b. if b then record { notes = []; boards = plain_onto line (plain_parts ls).notes (plain_parts ls).boards } else record {
            notes = line ∷ (plain_parts ls).notes;
            boards = (plain_parts ls).boards;
          }) board in
          let joins = onto-plain line parts.notes parts.boards rest.rows in
          record {
            same = here ∙ ap (λ bs. record { notes = []; boards = bs }) joins
                ∙ ap (λ (p : Parts). record { notes = []; boards = plain_onto line p.notes p.boards }) rest.same ∙ sym before;
            rows = subst RowParts (ap (λ (p : Parts). p.boards) (sym here)) (subst RowParts (sym joins)
                (onto-rows line parts.notes parts.boards kind board rest.rows));
          }
      | inr other ↦
          let kind = kind-note line (All-head HasNone line ls none) other in
          let here : parts_of (line ∷ ls) ≡ record { notes = line ∷ parts.notes; boards = parts.boards } = ap (λ k. parts_behind k line parts) kind in
          let before : plain_parts (line ∷ ls) ≡ record { notes = line ∷ (plain_parts ls).notes; boards = (plain_parts ls).boards } =
          ap (λ b. if b then record { notes = []; boards = plain_onto line (plain_parts ls).notes (plain_parts ls).boards } else record {
            notes = line ∷ (plain_parts ls).notes;
            boards = (plain_parts ls).boards;
          }) other in
          record {
            same = here ∙ ap (λ (p : Parts). record { notes = line ∷ p.notes; boards = p.boards }) rest.same ∙ sym before;
            rows = subst RowParts (ap (λ (p : Parts). p.boards) (sym here)) rest.rows;
          }
    ]

plain-rows : (notes : List (List ℕ)) (parts : List Part) → RowParts parts → All (λ block. rows_of block ≡ plain_rows block) (blocks_from notes parts)
plain-rows notes [] rows = All-nil (λ block. rows_of block ≡ plain_rows block)
plain-rows notes (part ∷ parts) rows =
    All-cons (λ block. rows_of block ≡ plain_rows block) (record { before = notes; board = part.board; after = part.after }) (blocks_from part.after parts)
    (rows-board part.board rows.1) (plain-rows part.after parts rows.2)

pub texts-read-plain : TextsReadPlain
unfolding blocks_of
texts-read-plain text none =
    let own = plain (lines text) (none-lines (length text) text (omega arith) none) in
    record {
      blocks = ap (λ (p : Parts). blocks_from p.notes p.boards) own.same;
      rows = plain-rows (parts_of (lines text)).notes (parts_of (lines text)).boards own.rows;
    }

-- Lines cut into notes and boards.
use Rattle.std.proofs.Common.{ℕ, ◌≡◌, ◌≢◌, ◌<◌, List, [], ◌∷◌, ◌++◌, Bool, true, false, if◌then◌else◌, length, sym, ap, ◌∙◌, refl, subst, inl, inr, arith}
use Rattle.std.proofs.lemmas.List.{append-nil}
use Rattle.std.proofs.lemmas.List.Elements.{All-head, All-tail, All-cons, All-nil}
use Rattle.std.proofs.lemmas.Bool.{cases_Bool}
use Rattle.sok_text.specs.declared.kind.Kind.{Kind}
use Rattle.sok_text.specs.declared.kind.Kind.TheVariants.{Row, Packed, Note}
use Rattle.sok_text.specs.Kinds.{kind_of, AreOf, StartsOther, IsBoard, rows, packed}
use Rattle.sok_text.specs.Packed.{is_packed_line}
use Rattle.sok_text.specs.Xsb.{is_board_line}
use Rattle.sok_text.specs.Collections.{Part, Parts, onto_board, parts_behind, parts_of, joined, starts_with_row, AreRuns, IsCut}

abbrev pub is : Kind → List ℕ → Type 0
is kind line = kind_of line ≡ kind

-- a line is of a board exactly where it is of that kind
kind-row : (line : List ℕ) → is Row line → is_board_line line ≡ true
kind-row line row = elim (cases_Bool (is_board_line line)) [
  | inl board ↦ board
  | inr other ↦ absurd (not_row (is_packed_line line) (sym (ap (λ b. if b then Row else if is_packed_line line then Packed else Note) other) ∙ row))
] where
  not_row : (b : Bool) → (if b then Packed else Note) ≡ Row → ⊥
  not_row true e = cc
  not_row false e = cc

pub kind-board : (line : List ℕ) → is_board_line line ≡ true → is Row line
kind-board line board = ap (λ b. if b then Row else if is_packed_line line then Packed else Note) board

kind-other : (line : List ℕ) → (is Row line → ⊥) → is_board_line line ≡ false
kind-other line other = elim (cases_Bool (is_board_line line)) [ inl board ↦ absurd (other (kind-board line board)) | inr differs ↦ differs ]

-- a first line of each kind
parts_of-kind : (kind : Kind) (line : List ℕ) (rest : List (List ℕ)) → is kind line → parts_of (line ∷ rest) ≡ parts_behind kind line (parts_of rest)
parts_of-kind kind line rest same = ap (λ k. parts_behind k line (parts_of rest)) same

-- notes at the front
pub parts_of-notes : (notes left : List (List ℕ)) → AreOf Note notes
    → parts_of (notes ++ left) ≡ record { notes = notes ++ (parts_of left).notes; boards = (parts_of left).boards }
parts_of-notes [] left same = refl
parts_of-notes (note ∷ notes) left same =
    parts_of-kind Note note (notes ++ left) (All-head (is Note) note notes same)
    ∙ ap (λ parts. record { notes = note ∷ parts.notes; boards = parts.boards }) (parts_of-notes notes left (All-tail (is Note) note notes same))

data KindCases (line : List ℕ) : Type 0 where
  row : is Row line → KindCases line
  one : is Packed line → KindCases line
  note : is Note line → KindCases line

kind_cases : (line : List ℕ) → KindCases line
kind_cases line = elim (kind_of line) as (λ k. is k line → KindCases line) [ Row ↦ row | Packed ↦ one | Note ↦ note ] refl

-- no notes stand before a board
pub notes-board : (ls : List (List ℕ)) → StartsOther Note ls → (parts_of ls).notes ≡ []
notes-board [] starts = refl
notes-board (line ∷ ls) starts = elim (kind_cases line) [
  | row same ↦ ap (λ parts. parts.notes) (parts_of-kind Row line ls same)
  | one same ↦ ap (λ parts. parts.notes) (parts_of-kind Packed line ls same)
  | note same ↦ absurd (starts same)
]

-- a board's last line
onto_board-last : (line : List ℕ) (left : List (List ℕ)) → StartsOther Row left
    → onto_board line (parts_of left).notes (parts_of left).boards ≡ record { board = line ∷ []; after = (parts_of left).notes } ∷ (parts_of left).boards
onto_board-last line [] starts = refl
onto_board-last line (next ∷ left) starts = elim (kind_cases next) [
  | row same ↦ absurd (starts same)
  | one same ↦
      let e = parts_of-kind Packed next left same in
      let other = kind-other next starts in
      ap (λ parts. onto_board line parts.notes parts.boards) e
      ∙ ap (λ b. if b then record { board = line ∷ next ∷ []; after = (parts_of left).notes } ∷ (parts_of left).boards
      else record { board = line ∷ []; after = [] } ∷ (record { board = next ∷ []; after = (parts_of left).notes } ∷ (parts_of left).boards)) other
      ∙ ap (λ parts. record { board = line ∷ []; after = parts.notes } ∷ parts.boards) (sym e)
  | note same ↦
      let e = parts_of-kind Note next left same in
      ap (λ parts. onto_board line parts.notes parts.boards) e ∙ ap (λ parts. record { board = line ∷ []; after = parts.notes } ∷ parts.boards) (sym e)
]

-- lines of a board, at least one
pub board_of : (board left : List (List ℕ)) → 0 < length board → AreOf Row board → StartsOther Row left → IsBoard board left
board_of [] left some same ends = absurd (omega arith)
board_of (line ∷ board) left some same ends = rows line board refl same ends

-- lines of a board at the front
parts_of-rows : (line : List ℕ) (board left : List (List ℕ)) → AreOf Row (line ∷ board) → StartsOther Row left
    → parts_of ((line ∷ board) ++ left) ≡ record {
      notes = [];
      boards = record { board = line ∷ board; after = (parts_of left).notes } ∷ (parts_of left).boards;
    }
parts_of-rows line [] left same ends =
    parts_of-kind Row line left (All-head (is Row) line [] same)
    ∙ ap (λ boards. record { notes = []; boards = boards }) (onto_board-last line left ends)
parts_of-rows line (next ∷ board) left same ends =
    let others = All-tail (is Row) line (next ∷ board) same in
    let joins = kind-row next (All-head (is Row) next board others) in
    parts_of-kind Row line ((next ∷ board) ++ left) (All-head (is Row) line (next ∷ board) same)
    ∙ ap (λ parts. record { notes = []; boards = onto_board line parts.notes parts.boards }) (parts_of-rows next board left others ends)
    ∙ ap (λ b. record {
      notes = [];
      boards = if b then record { board = line ∷ next ∷ board; after = (parts_of left).notes } ∷ (parts_of left).boards
          else record { board = line ∷ []; after = [] } ∷ (record { board = next ∷ board; after = (parts_of left).notes } ∷ (parts_of left).boards);
    }) joins

-- a board at the front
pub parts_of-front : (board left : List (List ℕ)) → IsBoard board left
    → parts_of (board ++ left) ≡ record { notes = []; boards = record { board = board; after = (parts_of left).notes } ∷ (parts_of left).boards }
parts_of-front board left (rows line more whole same ends) =
    ap (λ b. parts_of (b ++ left)) whole ∙ parts_of-rows line more left (subst (AreOf Row) whole same) ends
    ∙ ap (λ b. record { notes = []; boards = record { board = b; after = (parts_of left).notes } ∷ (parts_of left).boards }) (sym whole)
parts_of-front board left (packed line whole same) =
    ap (λ b. parts_of (b ++ left)) whole ∙ parts_of-kind Packed line left same
    ∙ ap (λ b. record { notes = []; boards = record { board = b; after = (parts_of left).notes } ∷ (parts_of left).boards }) (sym whole)

-- a board at the front and the notes after it, up to the next board
pub boards-more : (board after left : List (List ℕ)) → IsBoard board (after ++ left) → AreOf Note after → StartsOther Note left
    → (parts_of (board ++ (after ++ left))).boards ≡ record { board = board; after = after } ∷ (parts_of left).boards
boards-more board after left is_board notes starts =
    ap (λ parts. parts.boards) (parts_of-front board (after ++ left) is_board)
    ∙ ap (λ parts. record { board = board; after = parts.notes } ∷ parts.boards) (parts_of-notes after left notes)
    ∙ ap (λ notes. record { board = board; after = after ++ notes } ∷ (parts_of left).boards) (notes-board left starts)
    ∙ ap (λ notes. record { board = board; after = notes } ∷ (parts_of left).boards) (append-nil after)

one_line : (kind : Kind) (line : List ℕ) → is kind line → AreOf kind (line ∷ [])
one_line kind line same = All-cons (is kind) line [] same (All-nil (is kind))

not_both : (line : List ℕ) (k l : Kind) → k ≢ l → is k line → is l line → ⊥
not_both line k l other first second = other (sym first ∙ second)

-- a board before what is left begins with a line of a board, or it is a packed line
data Begins (board left : List (List ℕ)) : Type 0 where
  with_row : (line : List ℕ) (more : List (List ℕ)) → board ≡ line ∷ more → AreOf Row board → StartsOther Row left → starts_with_row board ≡ true → Begins board left
  with_packed : (line : List ℕ) → board ≡ line ∷ [] → is Packed line → starts_with_row board ≡ false → Begins board left

begins : (board left : List (List ℕ)) → IsBoard board left → Begins board left
begins board left (rows line more whole same ends) =
    with_row line more whole same ends (ap starts_with_row whole ∙ kind-row line (All-head (is Row) line more (subst (AreOf Row) whole same)))
begins board left (packed line whole same) =
    with_packed line whole same (ap starts_with_row whole ∙ kind-other line (λ row. absurd cc))

-- a line of a board before a cut
IsCut-row : (line : List ℕ) (ls notes : List (List ℕ)) (boards : List Part) → is Row line → IsCut ls (record { notes = notes; boards = boards })
    → IsCut (line ∷ ls) (record { notes = []; boards = onto_board line notes boards })
IsCut-row line ls [] [] same cut = record {
  whole = ap (λ rest. line ∷ rest) cut.whole;
  notes = All-nil (is Note);
  runs = (record { board = rows line [] refl (one_line Row line same) tt; notes = All-nil (is Note) }, tt);
}
IsCut-row line ls [] (first ∷ boards) same cut = elim (begins first.board (first.after ++ joined boards) cut.runs.0.board) [
  | with_row next more whole are ends joins ↦
      subst (λ b. IsCut (line ∷ ls) (record {
        notes = [];
        boards = if b then record first { board = line ∷ first.board } ∷ boards else record { board = line ∷ []; after = [] } ∷ (first ∷ boards);
      })) (sym joins) (record {
        whole = ap (λ rest. line ∷ rest) cut.whole;
        notes = All-nil (is Note);
        runs = (
          record { board = rows line first.board refl (All-cons (is Row) line first.board same are) ends; notes = cut.runs.0.notes },
          cut.runs.1,
        );
      })
  | with_packed next whole own other ↦
      subst (λ b. IsCut (line ∷ ls) (record {
        notes = [];
        boards = if b then record first { board = line ∷ first.board } ∷ boards else record { board = line ∷ []; after = [] } ∷ (first ∷ boards);
      })) (sym other) (record {
        whole = ap (λ rest. line ∷ rest) cut.whole;
        notes = All-nil (is Note);
        runs = (
          record {
            board = rows line [] refl (one_line Row line same)
                (subst (λ b. StartsOther Row (b ++ (first.after ++ joined boards))) (sym whole) (λ row. absurd cc));
            notes = All-nil (is Note);
          },
          cut.runs,
        );
      })
]
IsCut-row line ls (n ∷ notes) boards same cut = record {
  whole = ap (λ rest. line ∷ rest) cut.whole;
  notes = All-nil (is Note);
  runs = (
    record {
      board = rows line [] refl (one_line Row line same) (λ row. not_both n Row Note (λ e. cc) row (All-head (is Note) n notes cut.notes));
      notes = cut.notes;
    },
    cut.runs,
  );
}

-- lines are cut into notes and boards
pub IsCut-parts_of : (ls : List (List ℕ)) → IsCut ls (parts_of ls)
IsCut-parts_of [] = record { whole = refl; notes = All-nil (is Note); runs = tt }
IsCut-parts_of (line ∷ ls) =
    let cut = IsCut-parts_of ls in
    let parts = parts_of ls in
    elim (kind_cases line) [
      | row same ↦ subst (IsCut (line ∷ ls)) (sym (parts_of-kind Row line ls same)) (IsCut-row line ls parts.notes parts.boards same cut)
      | one same ↦ subst (IsCut (line ∷ ls)) (sym (parts_of-kind Packed line ls same)) (record {
        whole = ap (λ rest. line ∷ rest) cut.whole;
        notes = All-nil (is Note);
        runs = (record { board = packed line refl same; notes = cut.notes }, cut.runs);
      })
      | note same ↦ subst (IsCut (line ∷ ls)) (sym (parts_of-kind Note line ls same)) (record {
        whole = ap (λ rest. line ∷ rest) cut.whole;
        notes = All-cons (is Note) line parts.notes same cut.notes;
        runs = cut.runs;
      })
    ]

parts_of-joined : (parts : List Part) → AreRuns parts → parts_of (joined parts) ≡ record { notes = []; boards = parts }
parts_of-joined [] runs = refl
parts_of-joined (part ∷ parts) runs =
    let run = runs.0 in
    parts_of-front part.board (part.after ++ joined parts) run.board
    ∙ ap (λ rest. record { notes = []; boards = record { board = part.board; after = rest.notes } ∷ rest.boards })
    (parts_of-notes part.after (joined parts) run.notes
    ∙ ap (λ rest. record { notes = part.after ++ rest.notes; boards = rest.boards }) (parts_of-joined parts runs.1))
    ∙ ap (λ after. record { notes = []; boards = record { board = part.board; after = after } ∷ parts }) (append-nil part.after)

-- there is no other cut into notes and boards
pub parts_of-IsCut : (ls : List (List ℕ)) (parts : Parts) → IsCut ls parts → parts ≡ parts_of ls
parts_of-IsCut ls parts cut =
    sym (ap parts_of cut.whole ∙ parts_of-notes parts.notes (joined parts.boards) cut.notes
    ∙ ap (λ rest. record { notes = parts.notes ++ rest.notes; boards = rest.boards }) (parts_of-joined parts.boards cut.runs)
    ∙ ap (λ notes. record { notes = notes; boards = parts.boards }) (append-nil parts.notes))

-- Canonical texts, which are read as the level that they are of.
use Rattle.std.proofs.Common.{ℕ, ◌≡◌, ◌<◌, ◌≤◌, ◌+◌, ◌-◌, List, [], ◌∷◌, ◌++◌, Vec, Bool, true, false, true≢false, All}
use Rattle.std.proofs.Common.{length, take, get_or, map, sym, ap, ◌∙◌, refl, inl, inr, arith, if◌then◌else◌, ◌==◌, ◌||◌, ◌&&◌, is_some}
use Rattle.std.proofs.lemmas.Bool.{cases_Bool, eqb-true}
use Rattle.std.proofs.lemmas.List.{append_assoc, append-nil, take_all, take_more, length-map}
use Rattle.std.proofs.lemmas.List.Elements.{All-cons, All-head, All-nil, All-tail}
use Rattle.std.proofs.lemmas.List.Sums.{AllPass-from_list_all}
use Rattle.std.proofs.Math.ListN.{get_or-map}
use Rattle.std.specs.List.{filter_map, list_all, list_any}
use Rattle.std.specs.Str.Lines.{lines, strip_carriage_return}
use Rattle.sok_rules.specs.declared.cell.Cell.{Cell}
use Rattle.sok_rules.specs.declared.cell.Cell.TheVariants.{Wall, Floor, Goal, BoxOff, BoxOn, ManOff, ManOn}
use Rattle.sok_rules.specs.Squares.{Rows, is_man, is_wall}
use Rattle.sok_rules.specs.Levels.{cells_of, count_in, level_of}
use Rattle.sok_rules.proofs.Proper.{level_of-IsLevel}
use Rattle.sok_text.specs.Canonical.{character, row_text, level_text, TextsAreOneLevel}
use Rattle.sok_text.specs.declared.kind.Kind.TheVariants.{Row}
use Rattle.sok_text.specs.Collections.{Parts, blocks_from, blocks_of, board_rows, parts_of}
use Rattle.sok_text.specs.Kinds.{kind_of, AreOf}
use Rattle.sok_text.specs.Lines.{is_newline}
use Rattle.sok_text.specs.Xsb.{cell_of, is_board_line}
use Rattle.sok_text.proofs.Cutting.{board_of, kind-board, parts_of-front}
use Rattle.sok_text.proofs.Lines.{lines-newline}
use Rattle.sok_text.proofs.Rows.{rows-board}

-- one text behind another
row_text-append : (a b : List Cell) → row_text (a ++ b) ≡ row_text a ++ row_text b
row_text-append [] b = refl
row_text-append (cell ∷ a) b = ap (λ rest. character cell ++ rest) (row_text-append a b) ∙ sym (append_assoc (character cell) (row_text a) (row_text b))

pub row_text-take_more : (row : List Cell) (i : ℕ) (other : Cell) → i < length row
    → row_text (take (i + 1) row) ≡ row_text (take i row) ++ character (get_or row i other)
row_text-take_more row i other within =
    ap row_text (take_more row i other within) ∙ row_text-append (take i row) (get_or row i other ∷ [])
    ∙ ap (λ back. row_text (take i row) ++ back) (append-nil (character (get_or row i other)))

level_text-append : (a b : Rows) → level_text (a ++ b) ≡ level_text a ++ level_text b
level_text-append [] b = refl
level_text-append (row ∷ a) b =
    ap (λ rest. row_text row ++ (10 ∷ rest)) (level_text-append a b) ∙ sym (append_assoc (row_text row) (10 ∷ level_text a) (level_text b))

pub level_text-take_more : (rows : Rows) (i : ℕ) (other : List Cell) → i < length rows
    → level_text (take (i + 1) rows) ≡ (level_text (take i rows) ++ row_text (get_or rows i other)) ++ 10 ∷ []
level_text-take_more rows i other within =
    ap level_text (take_more rows i other within) ∙ level_text-append (take i rows) (get_or rows i other ∷ [])
    ∙ sym (append_assoc (level_text (take i rows)) (row_text (get_or rows i other)) (10 ∷ []))

-- one more row of a level that is kept in vectors
pub printed-take_more : {A : Type 0} (level : Rows) (rows : List (Vec Cell A)) (i : ℕ) (row : Vec Cell A) → cells_of rows ≡ level → i < length rows
    → row ≡ get_or rows i row → (level_text (take i level) ++ row_text row.items) ++ 10 ∷ [] ≡ level_text (take (i + 1) level)
printed-take_more level rows i row is within there =
    let at : row.items ≡ get_or level i row.items =
    ap (λ (r : Vec Cell _). r.items) there ∙ sym (get_or-map (λ (r : Vec Cell _). r.items) rows i row) ∙ ap (λ ls. get_or ls i row.items) is in
    let inside : i < length level = omega (arith, within, length-map rows (λ (r : Vec Cell _). r.items), ap length is) in
    ap (λ cells. (level_text (take i level) ++ row_text cells) ++ 10 ∷ []) at ∙ sym (level_text-take_more level i row.items inside)

-- and all of them
pub printed-take_all : {A : Type 0} (level : Rows) (rows : List (Vec Cell A)) (i : ℕ) → cells_of rows ≡ level → length rows ≤ i
    → level_text (take i level) ≡ level_text level
printed-take_all level rows i is past = ap level_text (take_all i level (omega (arith, past, length-map rows (λ (r : Vec Cell _). r.items), ap length is)))

-- the characters of a row are those of XSB
abbrev is_xsb : ℕ → Bool
is_xsb c = is_some (cell_of c)

xsb_more : (cell : Cell) (text : List ℕ) → list_all is_xsb (character cell ++ text) ≡ list_all is_xsb text
xsb_more Wall text = refl
xsb_more Floor text = refl
xsb_more Goal text = refl
xsb_more BoxOff text = refl
xsb_more BoxOn text = refl
xsb_more ManOff text = refl
xsb_more ManOn text = refl

xsb-row_text : (row : List Cell) → list_all is_xsb (row_text row) ≡ true
xsb-row_text [] = refl
xsb-row_text (cell ∷ row) = xsb_more cell (row_text row) ∙ xsb-row_text row

walls_more : (cell : Cell) (text : List ℕ) → list_any (λ c. c == 35) (character cell ++ text) ≡ (is_wall cell || list_any (λ c. c == 35) text)
walls_more Wall text = refl
walls_more Floor text = refl
walls_more Goal text = refl
walls_more BoxOff text = refl
walls_more BoxOn text = refl
walls_more ManOff text = refl
walls_more ManOn text = refl

walls-row_text : (row : List Cell) → list_any (λ c. c == 35) (row_text row) ≡ list_any is_wall row
walls-row_text [] = refl
walls-row_text (cell ∷ row) = walls_more cell (row_text row) ∙ ap (λ b. is_wall cell || b) (walls-row_text row)

cells_more : (cell : Cell) (text : List ℕ) → filter_map cell_of (character cell ++ text) ≡ cell ∷ filter_map cell_of text
cells_more Wall text = refl
cells_more Floor text = refl
cells_more Goal text = refl
cells_more BoxOff text = refl
cells_more BoxOn text = refl
cells_more ManOff text = refl
cells_more ManOn text = refl

-- and are read as its cells
cells-row_text : (row : List Cell) → filter_map cell_of (row_text row) ≡ row
cells-row_text [] = refl
cells-row_text (cell ∷ row) = cells_more cell (row_text row) ∙ ap (λ cells. cell ∷ cells) (cells-row_text row)

-- no character of XSB ends a line
no_newline : (c : ℕ) → is_xsb c ≡ true → is_newline c ≡ false
no_newline c xsb = elim (cases_Bool (c == 10)) [
  | inr other ↦ other
  | inl newline ↦ absurd (true≢false (sym xsb ∙ ap is_xsb (eqb-true c 10 newline)))
]

no_return : (c : ℕ) → is_xsb c ≡ true → (c == 13) ≡ false
no_return c xsb = elim (cases_Bool (c == 13)) [
  | inr other ↦ other
  | inl return ↦ absurd (true≢false (sym xsb ∙ ap is_xsb (eqb-true c 13 return)))
]

plain : (text : List ℕ) → list_all is_xsb text ≡ true → All (λ c. is_newline c ≡ false) text
plain text xsb = λ k d within. no_newline (get_or text k d) (AllPass-from_list_all is_xsb text xsb k d within)

-- a line whose last byte is no CR is kept whole
pub strip-kept : (text : List ℕ) → (get_or text (length text - 1) 0 == 13) ≡ false → strip_carriage_return text ≡ text
strip-kept text last = ap (λ b. if b then take (length text - 1) text else text) last

unstripped : (text : List ℕ) → list_all is_xsb text ≡ true → strip_carriage_return text ≡ text
unstripped [] xsb = refl
unstripped (c ∷ text) xsb =
    let last = length (c ∷ text) - 1 in
    strip-kept (c ∷ text) (no_return (get_or (c ∷ text) last 0) (AllPass-from_list_all is_xsb (c ∷ text) xsb last 0 (omega arith)))

-- the lines of a level, and of what follows
pub lines-level_text : (rows : Rows) (more : List ℕ) → lines (level_text rows ++ more) ≡ map row_text rows ++ lines more
lines-level_text [] more = refl
lines-level_text (row ∷ rows) more =
    ap lines (append_assoc (row_text row) (10 ∷ level_text rows) more)
    ∙ lines-newline (row_text row) (level_text rows ++ more) (plain (row_text row) (xsb-row_text row))
    ∙ (λ i. unstripped (row_text row) (xsb-row_text row) i ∷ lines-level_text rows more i)

board-row_text : (row : List Cell) → list_any is_wall row ≡ true → is_board_line (row_text row) ≡ true
board-row_text row wall = λ i. xsb-row_text row i && (walls-row_text row ∙ wall) i

pub boards : (rows : Rows) → All (λ row. list_any is_wall row ≡ true) rows → AreOf Row (map row_text rows)
boards [] walls = All-nil (λ line. kind_of line ≡ Row)
boards (row ∷ rows) walls =
    All-cons (λ line. kind_of line ≡ Row) (row_text row) (map row_text rows)
    (kind-board (row_text row) (board-row_text row (All-head (λ r. list_any is_wall r ≡ true) row rows walls)))
    (boards rows (All-tail (λ r. list_any is_wall r ≡ true) row rows walls))

pub cells-rows : (rows : Rows) → map (filter_map cell_of) (map row_text rows) ≡ rows
cells-rows [] = refl
cells-rows (row ∷ rows) = λ i. cells-row_text row i ∷ cells-rows rows i

-- the rows of a level's lines
pub board_rows-row_text : (rows : Rows) → All (λ row. list_any is_wall row ≡ true) rows → board_rows (map row_text rows) ≡ rows
board_rows-row_text rows walls = rows-board (map row_text rows) (boards rows walls) ∙ cells-rows rows

pub some_rows : (rows : Rows) → count_in is_man rows ≡ 1 → 0 < length (map row_text rows)
some_rows [] e = absurd (omega (arith, e))
some_rows (row ∷ rows) e = omega arith

alone : List (List ℕ) → Parts
alone board = record { notes = []; boards = record { board = board; after = [] } ∷ [] }

parts-alone : (board : List (List ℕ)) → 0 < length board → AreOf Row board → parts_of board ≡ alone board
unfolding alone
parts-alone board some same = ap parts_of (sym (append-nil board)) ∙ parts_of-front board [] (board_of board [] some same tt)

block_alone : (text : List ℕ) (board : List (List ℕ)) → parts_of (lines text) ≡ alone board
    → blocks_of text ≡ record { before = []; board = board; after = [] } ∷ []
unfolding alone blocks_of
block_alone text board is = ap (λ (parts : Parts). blocks_from parts.notes parts.boards) is

pub texts-are-one-level : TextsAreOneLevel
texts-are-one-level rows level = record {
  block = record { before = []; board = map row_text rows; after = [] };
  one = block_alone (level_text rows) (map row_text rows) (
      ap (λ text. parts_of (lines text)) (sym (append-nil (level_text rows)))
      ∙ ap parts_of (lines-level_text rows [] ∙ append-nil (map row_text rows))
      ∙ parts-alone (map row_text rows) (some_rows rows level.proper.one_man) (boards rows level.proper.walls));
  level = ap level_of (board_rows-row_text rows level.proper.walls) ∙ level_of-IsLevel rows level;
  untitled = refl;
}

-- The rows of a board.
use Rattle.std.proofs.Common.{ℕ, ◌≡◌, ◌<◌, List, [], ◌∷◌, ◌++◌, Vec, Option, true, get_or, take, ◌+◌, map, length, refl, sym, ap, ◌∙◌, arith, ◌==◌}
use Rattle.std.proofs.lemmas.Bool.Decides.{nat_tests}
use Rattle.std.proofs.lemmas.List.{take_more, length-map, length-append, map_push, append_assoc, append-nil}
use Rattle.std.proofs.lemmas.List.Elements.{All-head, filter_map-append}
use Rattle.std.specs.List.{filter_map}
use Rattle.std.specs.Str.Lines.{lines}
use Rattle.sok_rules.specs.Limits.{size_limit}
use Rattle.sok_rules.specs.declared.cell.Cell.{Cell}
use Rattle.sok_rules.specs.Squares.{Rows}
use Rattle.sok_rules.specs.Levels.{cells_of, level_of}
use Rattle.sok_rules.proofs.Proper.{level_of-tall}
use Rattle.sok_text.specs.declared.kind.Kind.{Kind}
use Rattle.sok_text.specs.declared.kind.Kind.TheVariants.{Row, Packed, Note}
use Rattle.sok_text.specs.Collections.{board_rows, rows_by}
use Rattle.sok_text.specs.Kinds.{kind_of, AreOf}
use Rattle.sok_text.specs.Packed.{packed_rows}
use Rattle.sok_text.specs.Xsb.{cell_of}
use Rattle.sok_text.specs.Lines.{first_line, after_line}
use Rattle.sok_text.proofs.Lines.{lines-first}

-- one more row is read
pub cells_of-more : {A : Type 0} (whole : Rows) (rows grown : List (Vec Cell A)) (row : Vec Cell A) (rest next line : List ℕ) → 0 < length rest
    → line ≡ first_line rest → next ≡ after_line rest → row.items ≡ filter_map cell_of line → grown ≡ rows ++ row ∷ []
    → whole ≡ cells_of rows ++ map (filter_map cell_of) (lines rest) → whole ≡ cells_of grown ++ map (filter_map cell_of) (lines next)
cells_of-more whole rows grown row rest next line some first behind read longer so_far =
    let tail = map (filter_map cell_of) (lines next) in
    so_far ∙ ap (λ ls. cells_of rows ++ map (filter_map cell_of) ls) (lines-first rest some)
    ∙ (λ i. cells_of rows ++ filter_map cell_of (sym first i) ∷ map (filter_map cell_of) (lines (sym behind i)))
    ∙ ap (λ cells. cells_of rows ++ cells ∷ tail) (sym read)
    ∙ sym (append_assoc (cells_of rows) (row.items ∷ []) tail) ∙ ap (λ cells. cells ++ tail) (sym (map_push (λ (r : Vec Cell _). r.items) rows row))
    ∙ ap (λ all. cells_of all ++ tail) (sym longer)

-- the first rows decide where they are too many
pub level_of-enough : {A : Type 0} (whole : Rows) (rows : List (Vec Cell A)) (rest : Rows) → size_limit < length rows → whole ≡ cells_of rows ++ rest
    → level_of (cells_of rows) ≡ level_of whole
level_of-enough whole rows rest tall so_far =
    let long : size_limit < length (cells_of rows) = omega (arith, length-map rows (λ (r : Vec Cell _). r.items)) in
    level_of-tall (cells_of rows) long ∙ sym (level_of-tall whole (omega (arith, ap length so_far, length-append (cells_of rows) rest)))

-- all rows are read
pub level_of-all : {A : Type 0} (whole : Rows) (rows : List (Vec Cell A)) (rest : List ℕ) → length rest == 0 ≡ true
    → whole ≡ cells_of rows ++ map (filter_map cell_of) (lines rest) → level_of (cells_of rows) ≡ level_of whole
level_of-all whole rows [] none so_far = ap level_of (sym (so_far ∙ append-nil (cells_of rows)))
level_of-all whole rows (byte ∷ rest) none so_far = absurd (grind (arith, nat_tests))

-- one more character of a line
pub filter_map-more : {X Y : Type 0} (h : X → Option Y) (xs : List X) (i : ℕ) (d : X) → i < length xs
    → filter_map h (take (i + 1) xs) ≡ filter_map h (take i xs) ++ filter_map h (get_or xs i d ∷ [])
filter_map-more h xs i d within = ap (filter_map h) (take_more xs i d within) ∙ filter_map-append h (take i xs) (get_or xs i d ∷ [])

-- the rows of a packed line's text
pub rows-packed : (text : List ℕ) → kind_of (first_line text) ≡ Packed → board_rows (lines text) ≡ packed_rows (first_line text)
unfolding first_line
rows-packed [] same = absurd cc
rows-packed (byte ∷ text) same =
    ap board_rows (lines-first (byte ∷ text) (omega arith))
    ∙ ap (λ kind. rows_by kind (first_line (byte ∷ text)) (lines (after_line (byte ∷ text)))) same

rows_by-lines : (kind : Kind) (line : List ℕ) (board : List (List ℕ)) → (kind ≡ Packed → ⊥) → rows_by kind line board ≡ map (filter_map cell_of) (line ∷ board)
rows_by-lines Row line board other = refl
rows_by-lines Note line board other = refl
rows_by-lines Packed line board other = absurd (other refl)

-- those of other lines
pub rows-lines : (text : List ℕ) → (kind_of (first_line text) ≡ Packed → ⊥) → board_rows (lines text) ≡ map (filter_map cell_of) (lines text)
rows-lines [] other = refl
rows-lines (byte ∷ text) other =
    let cut = lines-first (byte ∷ text) (omega arith) in
    ap board_rows cut ∙ rows_by-lines (kind_of (first_line (byte ∷ text))) (first_line (byte ∷ text)) (lines (after_line (byte ∷ text))) other
    ∙ ap (map (filter_map cell_of)) (sym cut)

pub rows-board : (board : List (List ℕ)) → AreOf Row board → board_rows board ≡ map (filter_map cell_of) board
rows-board [] same = refl
rows-board (line ∷ board) same = ap (λ kind. rows_by kind line board) (All-head (λ l. kind_of l ≡ Row) line board same)

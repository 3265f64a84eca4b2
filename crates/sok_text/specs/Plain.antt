-- Collections as they were read before there were packed lines: each line is a line of a board or a note.
use Rattle.std.specs.Prelude.{ℕ, ◌≡◌, List, [], ◌∷◌, All, false, if◌then◌else◌, map}
use Rattle.std.specs.List.{filter_map}
use Rattle.std.specs.Str.Lines.{lines}
use Rattle.sok_rules.specs.Squares.{Rows}
use Rattle.sok_text.specs.Collections.{Block, Part, Parts, blocks_from, blocks_of, rows_of}
use Rattle.sok_text.specs.Packed.{is_bar}
use Rattle.sok_text.specs.Xsb.{cell_of, is_board_line}

abbrev pub plain_onto : List ℕ → List (List ℕ) → List Part → List Part
plain_onto line [] (first ∷ boards) = record first { board = line ∷ first.board } ∷ boards
plain_onto line notes boards = record { board = line ∷ []; after = notes } ∷ boards

abbrev pub plain_parts : List (List ℕ) → Parts
plain_parts [] = record { notes = []; boards = [] }
plain_parts (line ∷ rest) =
    let parts = plain_parts rest in
    if is_board_line line then record { notes = []; boards = plain_onto line parts.notes parts.boards }
    else record parts { notes = line ∷ parts.notes }

abbrev pub plain_blocks : List ℕ → List Block
plain_blocks text = let parts = plain_parts (lines text) in blocks_from parts.notes parts.boards

abbrev pub plain_rows : Block → Rows
plain_rows block = map (filter_map cell_of) block.board

-- a text has the same blocks with the same rows as before, and so the same levels and titles
pub record ReadsPlain (text : List ℕ) : Type 0 where
  pub blocks : blocks_of text ≡ plain_blocks text
  pub rows : All (λ block. rows_of block ≡ plain_rows block) (blocks_of text)

-- a text without a bar is read as before
abbrev pub TextsReadPlain : Type 0
TextsReadPlain = (text : List ℕ) → All (λ c. is_bar c ≡ false) text → ReadsPlain text

-- Collections of levels. A run of board lines is a level, and so is each packed line. All other lines are notes.
use Rattle.std.specs.Prelude.{ℕ, ◌≡◌, List, [], ◌∷◌, ◌++◌, Option, None, Result, Err, zero, suc, slice_get, if◌then◌else◌, map, Bool, false}
use Rattle.std.specs.Option.{option_map_or}
use Rattle.std.specs.List.{filter_map}
use Rattle.std.specs.Str.Lines.{lines}
use Rattle.sok_rules.specs.declared.fault.LevelFault.{LevelFault}
use Rattle.sok_rules.specs.declared.fault.LevelFault.TheVariants.{NoSuchLevel}
use Rattle.sok_rules.specs.Squares.{Rows}
use Rattle.sok_rules.specs.Levels.{level_of}
use Rattle.sok_text.specs.declared.kind.Kind.{Kind}
use Rattle.sok_text.specs.declared.kind.Kind.TheVariants.{Row, Packed, Note}
use Rattle.sok_text.specs.Kinds.{kind_of, AreOf, IsBoard}
use Rattle.sok_text.specs.Packed.{packed_rows}
use Rattle.sok_text.specs.Xsb.{cell_of, is_board_line}

-- the lines of a board, and the notes after it, up to the next board
pub record Part : Type 0 where
  pub board : List (List ℕ)
  pub after : List (List ℕ)

-- the notes before the first board, and each board with the notes after it
pub record Parts : Type 0 where
  pub notes : List (List ℕ)
  pub boards : List Part

abbrev pub starts_with_row : List (List ℕ) → Bool
starts_with_row [] = false
starts_with_row (line ∷ ls) = is_board_line line

-- A board line put before the parts of a text. It joins their first board if that has board lines and no note stands between. Otherwise it is a new board.
abbrev pub onto_board : List ℕ → List (List ℕ) → List Part → List Part
onto_board line [] (first ∷ boards) =
    if starts_with_row first.board then record first { board = line ∷ first.board } ∷ boards else record { board = line ∷ []; after = [] } ∷ (first ∷ boards)
onto_board line notes boards = record { board = line ∷ []; after = notes } ∷ boards

-- the parts of a text that begins with a line of a kind, given the parts after that line
abbrev pub parts_behind : Kind → List ℕ → Parts → Parts
parts_behind Row line parts = record { notes = []; boards = onto_board line parts.notes parts.boards }
parts_behind Packed line parts = record { notes = []; boards = record { board = line ∷ []; after = parts.notes } ∷ parts.boards }
parts_behind Note line parts = record parts { notes = line ∷ parts.notes }

-- lines cut into notes and boards
abbrev pub parts_of : List (List ℕ) → Parts
parts_of [] = record { notes = []; boards = [] }
parts_of (line ∷ rest) = parts_behind (kind_of line) line (parts_of rest)

-- the board lines of a level, with the notes before and after them, up to the next board on each side
pub record Block : Type 0 where
  pub before : List (List ℕ)
  pub board : List (List ℕ)
  pub after : List (List ℕ)

-- the block with these texts
abbrev pub block_of : List ℕ → List ℕ → List ℕ → Block
block_of before board after = record { before = lines before; board = lines board; after = lines after }

-- each board with the notes on both sides
abbrev pub blocks_from : List (List ℕ) → List Part → List Block
blocks_from before [] = []
blocks_from before (part ∷ parts) = record { before = before; board = part.board; after = part.after } ∷ blocks_from part.after parts

-- the levels of a collection, in order
unfoldable pub blocks_of : List ℕ → List Block
blocks_of text = let parts = parts_of (lines text) in blocks_from parts.notes parts.boards

-- the rows of a board whose first line is of a kind: those of the packed line, or one row for each line
abbrev pub rows_by : Kind → List ℕ → List (List ℕ) → Rows
rows_by Packed line board = packed_rows line
rows_by Row line board = map (filter_map cell_of) (line ∷ board)
rows_by Note line board = map (filter_map cell_of) (line ∷ board)

abbrev pub board_rows : List (List ℕ) → Rows
board_rows [] = []
board_rows (line ∷ board) = rows_by (kind_of line) line board

abbrev pub rows_of : Block → Rows
rows_of block = board_rows block.board

-- the n-th block, counted from 1
abbrev pub block_at : List Block → ℕ → Option Block
block_at blocks zero = None
block_at blocks (suc n) = slice_get blocks n

-- the n-th level, or why there is none
unfoldable pub level_at : List Block → ℕ → Result Rows LevelFault
level_at blocks n = option_map_or (λ block. level_of (rows_of block)) (block_at blocks n) (Err NoSuchLevel)

-- the lines of all boards and of the notes after them, in order
abbrev pub joined : List Part → List (List ℕ)
joined [] = []
joined (part ∷ parts) = part.board ++ (part.after ++ joined parts)

-- a board that is as long as possible, and only notes after it
pub record IsRun (part : Part) (more : List Part) : Type 0 where
  pub board : IsBoard part.board (part.after ++ joined more)
  pub notes : AreOf Note part.after

abbrev pub AreRuns : List Part → Type 0
AreRuns [] = Unit {0}
AreRuns (part ∷ parts) = IsRun part parts × AreRuns parts

-- the parts are a cut of lines into notes and boards
pub record IsCut (ls : List (List ℕ)) (parts : Parts) : Type 0 where
  pub whole : ls ≡ parts.notes ++ joined parts.boards
  pub notes : AreOf Note parts.notes
  pub runs : AreRuns parts.boards

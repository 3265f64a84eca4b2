-- The line for each level of a collection.
use Rattle.std.specs.Prelude.{ℕ, ◌≡◌, ◌+◌, List, [], ◌∷◌, ◌++◌, Option, Result, Ok, Err, codes, fold, length, max}
use Rattle.std.specs.Fmt.{decimal}
use Rattle.sok_rules.specs.declared.fault.LevelFault.{LevelFault}
use Rattle.sok_rules.specs.Levels.{count_in, level_of}
use Rattle.sok_rules.specs.Squares.{Rows, is_box, is_goal}
use Rattle.sok_text.specs.Collections.{Block, blocks_of, rows_of}
use Rattle.sok_text.specs.Titles.{title_of}
use Rattle.sok_book.specs.Overview.{title_words}
use Rattle.sok_engine.specs.FaultLines.{fault_words}
use Rattle.sok_engine.specs.Faults.{of_level}
use Rattle.sok_engine.specs.Written.{Answers}

-- the length of the longest row
abbrev pub width_of : Rows → ℕ
width_of rows = fold (λ most row. max most (length row)) 0 rows

-- how many rows, columns, boxes and goals a level has
abbrev pub level_numbers : Rows → List ℕ
level_numbers rows =
    decimal (length rows) ++ codes " " ++ decimal (width_of rows) ++ codes " " ++ decimal (count_in is_box rows) ++ codes " " ++ decimal (count_in is_goal rows)

-- the numbers of a level and its title; or its fault
abbrev pub level_words : Result Rows LevelFault → Option (List ℕ) → List ℕ
level_words (Ok rows) title = level_numbers rows ++ title_words title
level_words (Err fault) title = fault_words (of_level fault)

-- a level's number, counted from 1, and the words for the level
abbrev pub level_line : ℕ → Result Rows LevelFault → Option (List ℕ) → List ℕ
level_line n level title = decimal n ++ codes " " ++ level_words level title ++ codes "\n"

-- the lines of these levels, of which the first has this number
unfoldable pub lines_from : ℕ → List Block → List ℕ
lines_from n [] = []
lines_from n (block ∷ blocks) = level_line n (level_of (rows_of block)) (title_of block) ++ lines_from (n + 1) blocks

-- the answer to a collection: a line for each level, also for a faulty one
abbrev pub IsListing : List ℕ → Answers
IsListing bytes answer = answer ≡ Ok (record { text = lines_from 1 (blocks_of bytes); status = 0 })

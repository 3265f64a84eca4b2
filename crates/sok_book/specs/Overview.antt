-- A line for each level of a book.
use Rattle.std.specs.Prelude.{ℕ, ◌+◌, List, [], ◌∷◌, ◌++◌, Bool, ◌||◌, ◌==◌, Option, Some, None, codes, count_by, fold, length, max, option_map}
use Rattle.std.specs.Fmt.{decimal}
use Rattle.std.specs.Str.Lines.{lines}
use Rattle.sok_text.specs.Canonical.{level_text}
use Rattle.sok_text.specs.Characters.{code}
use Rattle.sok_text.specs.Lines.{is_newline}
use Rattle.sok_book.specs.declared.record.Verdict.{Verdict}
use Rattle.sok_book.specs.declared.record.Verdict.TheVariants.{Untested, Optimal, Unsolvable}
use Rattle.sok_book.specs.Books.{Page, Solution}
use Rattle.sok_book.specs.Escapes.{escaped}

-- how many rows the text of a level has
abbrev pub row_count : List ℕ → ℕ
row_count text = count_by is_newline text

-- the length of the longest row
abbrev pub column_count : List ℕ → ℕ
column_count text = fold (λ most line. max most (length line)) 0 (lines text)

-- a box, on a goal or not
abbrev pub is_box : ℕ → Bool
is_box c = c == code (codes "$") || c == code (codes "*")

abbrev pub box_count : List ℕ → ℕ
box_count text = count_by is_box text

-- a level's number, and how many rows, columns and boxes it has
abbrev pub size_words : ℕ → List ℕ → List ℕ
size_words n text =
    decimal n ++ (codes " " ++ (decimal (row_count text) ++ (codes " " ++ (decimal (column_count text) ++ (codes " " ++ (decimal (box_count text) ++ codes " "))))))

-- the pushes and the moves of the best solution, or `-` twice
abbrev pub best_words : Option Solution → List ℕ
best_words None = codes "- - "
best_words (Some best) = decimal best.pushes ++ (codes " " ++ (decimal best.moves ++ codes " "))

abbrev pub verdict_word : Verdict → List ℕ
verdict_word Untested = codes "untested"
verdict_word Optimal = codes "optimal"
verdict_word Unsolvable = codes "unsolvable"

-- a space and the title, if there is one
abbrev pub title_words : Option (List ℕ) → List ℕ
title_words None = []
title_words (Some title) = codes " " ++ title

-- the line of the n-th level; the control characters of its title are seen
abbrev pub overview_line : ℕ → Page → List ℕ
overview_line n page =
    size_words n (level_text page.level)
    ++ (best_words page.best ++ (verdict_word page.verdict ++ (title_words (option_map escaped page.title) ++ codes "\n")))

-- the lines of these levels, of which the first has this number
abbrev pub overview_from : ℕ → List Page → List ℕ
overview_from n [] = []
overview_from n (page ∷ pages) = overview_line n page ++ overview_from (n + 1) pages

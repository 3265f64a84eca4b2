-- The levels of a book as the text of a collection.
use Rattle.std.specs.Prelude.{ℕ, ◌≡◌, List, [], ◌∷◌, ◌++◌, Bool, true, false, Option, Some, None, Result, Ok, All, codes, map}
use Rattle.std.specs.Fmt.{decimal}
use Rattle.sok_rules.specs.declared.fault.LevelFault.{LevelFault}
use Rattle.sok_rules.specs.Levels.{level_of}
use Rattle.sok_rules.specs.Squares.{Rows}
use Rattle.sok_text.specs.Collections.{Block, blocks_of, rows_of}
use Rattle.sok_text.specs.Canonical.{level_text}
use Rattle.sok_text.specs.Titles.{title_of}
use Rattle.sok_book.specs.declared.record.Verdict.{Verdict}
use Rattle.sok_book.specs.declared.record.Verdict.TheVariants.{Untested, Optimal, Unsolvable}
use Rattle.sok_book.specs.Books.{Book, Page, Solution}
use Rattle.sok_book.specs.Kept.{IsKeptPage}
use Rattle.sok_book.specs.Texts.{lurd_of}

-- the note before a level, if it has a title
abbrev pub title_note : Option (List ℕ) → List ℕ
title_note None = []
title_note (Some title) = codes "; " ++ (title ++ codes "\n")

-- the words after the pushes of a best solution: whether it was proved that no solution has fewer
abbrev pub optimal_words : Verdict → List ℕ
optimal_words Untested = []
optimal_words Optimal = codes " optimal"
optimal_words Unsolvable = []

-- the notes of a level's best solution, or that there is no solution
abbrev pub solution_notes : Rows → Option Solution → Verdict → List ℕ
solution_notes rows (Some best) verdict =
    codes "Solution: " ++ (lurd_of rows best.letters ++ (codes "\nPushes: " ++ (decimal best.pushes ++ (optimal_words verdict ++ codes "\n"))))
solution_notes rows None Untested = []
solution_notes rows None Optimal = []
solution_notes rows None Unsolvable = codes "Unsolvable\n"

-- the notes after the rows of a level, if solutions are wanted
abbrev pub notes_behind : Bool → Page → List ℕ
notes_behind true page = solution_notes page.level page.best page.verdict
notes_behind false page = []

-- a level: its title, if there is one; its canonical text; its solution, if that is wanted; and an empty line
abbrev pub level_export : Bool → Page → List ℕ
level_export solutions page = title_note page.title ++ (level_text page.level ++ (notes_behind solutions page ++ codes "\n"))

-- these levels, one after another
abbrev pub export_text : Bool → List Page → List ℕ
export_text solutions [] = []
export_text solutions (page ∷ pages) = level_export solutions page ++ export_text solutions pages

-- a level, or its fault, with its title
pub record Titled : Type 0 where
  pub level : Result Rows LevelFault
  pub title : Option (List ℕ)

abbrev pub titled_block : Block → Titled
titled_block block = record { level = level_of (rows_of block); title = title_of block }

abbrev pub titled_page : Page → Titled
titled_page page = record { level = Ok page.level; title = page.title }

-- by the definition of collections, the export of pages that may be kept has the same levels with the same titles, in the same order
abbrev pub ExportsReadBack : Type 0
ExportsReadBack = (solutions : Bool) (book : Book) → All IsKeptPage book
    → map titled_block (blocks_of (export_text solutions book)) ≡ map titled_page book

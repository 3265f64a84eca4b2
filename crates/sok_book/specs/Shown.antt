-- What is shown of a level: its rows, its title, its best solution and its verdict.
use Rattle.std.specs.Prelude.{ℕ, List, [], ◌++◌, Option, Some, None, codes}
use Rattle.std.specs.Fmt.{decimal}
use Rattle.sok_rules.specs.Squares.{Rows}
use Rattle.sok_text.specs.Canonical.{level_text}
use Rattle.sok_book.specs.declared.record.Verdict.{Verdict}
use Rattle.sok_book.specs.declared.record.Verdict.TheVariants.{Untested, Optimal, Unsolvable}
use Rattle.sok_book.specs.Books.{Page, Solution}
use Rattle.sok_book.specs.Texts.{lurd_of}

abbrev pub title_line : Option (List ℕ) → List ℕ
title_line None = []
title_line (Some title) = codes "title " ++ (title ++ codes "\n")

-- pushes, moves and letters
abbrev pub best_line : Rows → Option Solution → List ℕ
best_line rows None = codes "best none\n"
best_line rows (Some best) =
    codes "best " ++ (decimal best.pushes ++ (codes " " ++ (decimal best.moves ++ (codes " " ++ (lurd_of rows best.letters ++ codes "\n")))))

abbrev pub verdict_line : Verdict → List ℕ
verdict_line Untested = codes "verdict untested\n"
verdict_line Optimal = codes "verdict optimal\n"
verdict_line Unsolvable = codes "verdict unsolvable\n"

abbrev pub shown_text : Page → List ℕ
shown_text page = ((level_text page.level ++ title_line page.title) ++ best_line page.level page.best) ++ verdict_line page.verdict

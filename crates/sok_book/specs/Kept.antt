-- What a page must be to be kept in a table.
use Rattle.std.specs.Prelude.{ℕ, ◌≤◌, Bool, true, not, IfSome, IsTrue, is_some, length}
use Rattle.sok_rules.specs.Limits.{letter_limit, size_limit}
use Rattle.sok_rules.specs.Squares.{Rows}
use Rattle.sok_rules.specs.Levels.{IsLevelIn}
use Rattle.sok_board.specs.Limits.{square_limit}
use Rattle.sok_board.specs.Refusals.{IsAcceptableIn}
use Rattle.sok_book.specs.declared.record.Verdict.{Verdict}
use Rattle.sok_book.specs.declared.record.Verdict.TheVariants.{Untested, Optimal, Unsolvable}
use Rattle.sok_book.specs.Books.{Page, Solution, IsSolution}
use Rattle.sok_book.specs.Titles.{IsTitle}

-- a solution with its pushes and moves that has no more letters than a text may have
pub record IsKeptSolution (rows : Rows) (best : Solution) : Type 0 where
  pub solution : IsSolution rows best
  pub few : length best.letters ≤ letter_limit

-- whether a level with a best solution, or without one, may have this verdict
abbrev pub may_stand : Bool → Verdict → Bool
may_stand best Untested = true
may_stand best Optimal = best
may_stand best Unsolvable = not best

-- an accepted level within these limits, a title if there is one, a best solution if there is one, and a verdict that fits it
pub record IsKeptPageIn (size squares : ℕ) (page : Page) : Type 0 where
  pub level : IsLevelIn size page.level
  pub accepted : IsAcceptableIn size squares page.level
  pub title : IfSome page.title IsTitle
  pub best : IfSome page.best (IsKeptSolution page.level)
  pub verdict : IsTrue (may_stand (is_some page.best) page.verdict)

abbrev pub IsKeptPage : Page → Type 0
IsKeptPage page = IsKeptPageIn size_limit square_limit page

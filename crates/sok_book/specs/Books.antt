-- A book: levels with their titles, best solutions and verdicts.
use Rattle.std.specs.Prelude.{ℕ, ℤ, zero, suc, ◌≡◌, List, Option, Some, None, IfSome, length, slice_get}
use Rattle.sok_rules.specs.declared.cell.Dir.{Dir}
use Rattle.sok_rules.specs.Squares.{Rows}
use Rattle.sok_rules.specs.Play.{start, pushes, Solves, IsFewest, IsUnsolvable}
use Rattle.sok_book.specs.declared.record.Verdict.{Verdict}
use Rattle.sok_book.specs.declared.record.Verdict.TheVariants.{Untested, Optimal, Unsolvable}

-- a solution as it is kept: its letters, how many of them push, and how many letters there are
pub record Solution : Type 0 where
  pub letters : List Dir
  pub pushes : ℕ
  pub moves : ℕ

-- a level with what is known of it
pub record Page : Type 0 where
  pub level : Rows
  pub title : Option (List ℕ)
  pub best : Option Solution
  pub verdict : Verdict

-- a page with its id
pub record PageWithId : Type 0 where
  pub id : ℤ
  pub page : Page

abbrev pub Book : Type 0
Book = List Page

-- the page with this id; ids count from 1
abbrev pub page_at : Book → ℕ → Option Page
page_at book zero = None
page_at book (suc n) = slice_get book n

-- these letters as a solution, with their pushes and moves
abbrev pub solution_of : Rows → List Dir → Solution
solution_of rows letters = record { letters = letters; pushes = pushes rows (start rows) letters; moves = length letters }

-- the letters solve the level, and the stated pushes and moves are right
pub record IsSolution (rows : Rows) (best : Solution) : Type 0 where
  pub solves : Solves rows best.letters
  pub counted : best ≡ solution_of rows best.letters

-- what a verdict says of a level and its best solution: nothing, that no solution has fewer pushes, or that there is no solution
abbrev pub IsVerdictOf : Rows → Option Solution → Verdict → Type 0
IsVerdictOf rows best Untested = Unit {0}
IsVerdictOf rows (Some best) Optimal = IsFewest rows best.pushes
IsVerdictOf rows None Optimal = ⊥
IsVerdictOf rows (Some best) Unsolvable = ⊥
IsVerdictOf rows None Unsolvable = IsUnsolvable rows

-- the best solution is one, and the verdict is true
pub record IsTruePage (page : Page) : Type 0 where
  pub best : IfSome page.best (IsSolution page.level)
  pub verdict : IsVerdictOf page.level page.best page.verdict

abbrev pub IsTrueBook : Book → Type 0
IsTrueBook book = (id : ℕ) (page : Page) → page_at book id ≡ Some page → IsTruePage page

-- What the answer to a level relies on.
use Rattle.std.specs.Prelude.{⊤}
use Rattle.sok_rules.specs.Squares.{Rows}
use Rattle.sok_rules.specs.Play.{Solves}
use Rattle.sok_search.specs.declared.finding.Finding.{Finding}
use Rattle.sok_search.specs.declared.finding.Finding.TheVariants.{Solved, NoBetter, Limit}

-- letters that were found solve the level
abbrev pub HasSolution : Rows → Finding → Type 0
HasSolution rows (Solved dirs pushes) = Solves rows dirs.items
HasSolution rows NoBetter = ⊤
HasSolution rows (Limit states least) = ⊤

-- The letters of a solution as a text.
use Rattle.std.specs.Prelude.{ℕ, List}
use Rattle.sok_rules.specs.declared.cell.Dir.{Dir}
use Rattle.sok_rules.specs.Squares.{Rows}
use Rattle.sok_rules.specs.Play.{start}
use Rattle.sok_text.specs.Marked.{marked_text}

-- a letter for each direction, played from the start of a level; it is in upper case exactly if it pushes
abbrev pub lurd_of : Rows → List Dir → List ℕ
lurd_of rows letters = marked_text rows (start rows) letters

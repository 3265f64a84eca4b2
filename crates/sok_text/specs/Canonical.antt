-- The canonical text of a level: the XSB character of each cell, with a space for floor, and LF at the end of each row.
use Rattle.std.specs.Prelude.{ℕ, ◌≡◌, List, [], ◌∷◌, ◌++◌, None, Ok, codes}
use Rattle.sok_rules.specs.declared.cell.Cell.{Cell}
use Rattle.sok_rules.specs.declared.cell.Cell.TheVariants.{Wall, Floor, Goal, BoxOff, BoxOn, ManOff, ManOn}
use Rattle.sok_rules.specs.Squares.{Rows}
use Rattle.sok_rules.specs.Levels.{IsLevel, level_of}
use Rattle.sok_text.specs.Collections.{Block, blocks_of, rows_of}
use Rattle.sok_text.specs.Titles.{title_of}

abbrev pub character : Cell → List ℕ
character Wall = codes "#"
character Floor = codes " "
character Goal = codes "."
character BoxOff = codes "$"
character BoxOn = codes "*"
character ManOff = codes "@"
character ManOn = codes "+"

abbrev pub row_text : List Cell → List ℕ
row_text [] = []
row_text (cell ∷ row) = character cell ++ row_text row

abbrev pub level_text : Rows → List ℕ
level_text [] = []
level_text (row ∷ rows) = row_text row ++ (codes "\n" ++ level_text rows)

-- by the definition of collections, a text is one level, with these rows and without a title
pub record IsOneLevel (rows : Rows) (text : List ℕ) : Type 0 where
  pub block : Block
  pub one : blocks_of text ≡ block ∷ []
  pub level : level_of (rows_of block) ≡ Ok rows
  pub untitled : title_of block ≡ None

-- the canonical text of a level is that level alone
abbrev pub TextsAreOneLevel : Type 0
TextsAreOneLevel = (rows : Rows) → IsLevel rows → IsOneLevel rows (level_text rows)

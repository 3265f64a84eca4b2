-- The values of a best solution in a row.
use Rattle.std.specs.Prelude.{◌≡◌, Option, option_map}
use Rattle.sok_rules.specs.Squares.{Rows}
use Rattle.sok_book.specs.Books.{Solution}
use Rattle.sok_book.specs.Texts.{lurd_of}
use Rattle.sok_sql.specs.Leaves.{Leaf}

-- the columns for the best solution hold this one of a level, or nothing if there is none
pub record AreBestValues (rows : Rows) (best : Option Solution) (leaf : Leaf) : Type 0 where
  pub lurd : leaf.lurd ≡ option_map (λ (b : Solution). lurd_of rows b.letters) best
  pub pushes : leaf.pushes ≡ option_map (λ (b : Solution). b.pushes) best
  pub moves : leaf.moves ≡ option_map (λ (b : Solution). b.moves) best

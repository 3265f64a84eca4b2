-- What is still to be shown of a position, and that it is true.
use Rattle.std.specs.Prelude.{ℕ, List}
use Rattle.sok_rules.specs.Squares.{Rows}
use Rattle.sok_rules.specs.Play.{Position, AtLeastFrom, NeverFrom}
use Rattle.sok_rules.specs.States.{Same}
use Rattle.sok_board.specs.Area.{BoardView, position_of}
use Rattle.sok_bar.specs.declared.rest.Rest.{Rest}
use Rattle.sok_bar.specs.declared.rest.Rest.TheVariants.{AtLeast, Never}

abbrev pub Remains : Rows → Position → Rest → Type 0
Remains rows x (AtLeast n) = AtLeastFrom rows x n
Remains rows x Never = NeverFrom rows x

-- what is still to be shown is true of each position of a state, which is given by numbers of squares
pub record IsBarred (b : BoardView) (player : ℕ) (boxes : List ℕ) (rest : Rest) : Type 0 where
  pub each : (x : Position) → Same b.rows (position_of b player boxes) x → Remains b.rows x rest

-- Numbers that make a position, with its boxes and its state.
use Rattle.std.specs.Prelude.{ℕ, ◌≡◌}
use Rattle.sok_board.specs.Area.{BoardView}
use Rattle.sok_state.specs.Keys.{IsKeyOf}
use Rattle.sok_closed.specs.declared.placing.Located.{Located}
use Rattle.sok_closed.specs.Rolls.{IsPosition, Node, node_position}

-- the node is a position; these are its boxes and its state
pub record IsLocated (b : BoardView) (count : ℕ) (n : Node) (found : Located) : Type 0 where
  pub position : IsPosition b count n
  pub boxes_are : found.boxes ≡ n.boxes
  pub key_is : IsKeyOf b (node_position b n) found.key

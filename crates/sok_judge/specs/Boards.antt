-- Which level has a board, why another has none, and the answers to each.
use Rattle.std.specs.Prelude.{◌≡◌, ◌≢◌, Result, Ok, Err}
use Rattle.sok_rules.specs.declared.fault.LevelFault.{LevelFault}
use Rattle.sok_rules.specs.Squares.{Rows}
use Rattle.sok_board.specs.declared.fault.BoardFault.{BoardFault}
use Rattle.sok_board.specs.declared.fault.BoardFault.TheVariants as board
use Rattle.sok_board.specs.Area.{BoardView, IsAccepted}
use Rattle.sok_board.specs.Refusals.{IsRefused}
use Rattle.sok_engine.specs.declared.fault.ToolFault.{ToolFault}
use Rattle.sok_engine.specs.declared.fault.ToolFault.TheVariants as tool
use Rattle.sok_engine.specs.Faults.{of_level, of_board}
use Rattle.sok_engine.specs.Written.{Answer, Answers}

-- why a level is not accepted, or the answers to its board
pub data OnBoard (P : BoardView → Answers) (rows : Rows) (answer : Result Answer ToolFault) : Type 0 where
  refused : (fault : BoardFault) → fault ≢ board.Memory → IsRefused rows fault → answer ≡ Err (of_board fault) → OnBoard P rows answer
  accepted : (b : BoardView) → b.rows ≡ rows → IsAccepted b → P b answer → OnBoard P rows answer

-- the board of a level, if that is accepted
pub record IsBoardOf (level : Result Rows LevelFault) (b : BoardView) : Type 0 where
  pub rows : level ≡ Ok b.rows
  pub accepted : IsAccepted b

-- why there is no board: the fault of the level or of its board, or memory was refused
pub data LacksBoard (level : Result Rows LevelFault) (fault : ToolFault) : Type 0 where
  faulty : (f : LevelFault) → level ≡ Err f → fault ≡ of_level f → LacksBoard level fault
  unaccepted : (rows : Rows) (f : BoardFault) → level ≡ Ok rows → IsRefused rows f → fault ≡ of_board f → LacksBoard level fault
  memory : fault ≡ tool.Memory → LacksBoard level fault

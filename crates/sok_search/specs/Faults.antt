-- Why a level is not solved, and how these faults are printed: their numbers, and their names with their arguments.
use Rattle.std.specs.Prelude.{ℕ, ◌≡◌, ◌≢◌, ◌<◌, ◌≤◌, ◌↔◌, ◌⊎◌, List, Result, Err, IfErr, IsOk, codes}
use Rattle.sok_rules.specs.Squares.{Rows}
use Rattle.sok_board.specs.Area.{BoardView, IsAccepted}
use Rattle.sok_board.specs.declared.fault.BoardFault.{BoardFault}
use Rattle.sok_board.specs.declared.fault.BoardFault.TheVariants as board
use Rattle.sok_board.specs.Faults.{board_fault_number, board_fault_words}
use Rattle.sok_board.specs.Refusals.{IsAcceptable, IsRefused}
use Rattle.sok_search.specs.declared.fault.SolveFault.{SolveFault}
use Rattle.sok_search.specs.declared.fault.SolveFault.TheVariants as solve
use Rattle.sok_search.specs.Limits.{state_limit}

-- a limit is 0, or above the greatest
abbrev pub IsBadLimit : ℕ → Type 0
IsBadLimit limit = (limit ≡ 0) ⊎ (state_limit < limit)

-- a fault of a board, as one of the solver
abbrev pub of_board : BoardFault → SolveFault
of_board board.Memory = solve.Memory
of_board fault = solve.Level fault

-- the limit is bad, or no board can be made of the level
abbrev pub IsRefusal : Rows → ℕ → SolveFault → Type 0
IsRefusal rows limit solve.BadLimit = IsBadLimit limit
IsRefusal rows limit (solve.Level fault) = (fault ≢ board.Memory) × IsRefused rows fault
IsRefusal rows limit solve.Memory = Unit {0}

-- the board of a level, and a limit that is not bad
pub record IsAcceptedWithin (rows : Rows) (limit : ℕ) (b : BoardView) : Type 0 where
  pub rows_are : b.rows ≡ rows
  pub accepted : IsAccepted b
  pub positive : 0 < limit
  pub small : limit ≤ state_limit

-- a fault is reported exactly if the limit is bad or the level is refused, memory aside
pub record TellsFault {A : Type 0} (rows : Rows) (limit : ℕ) (answer : Result A SolveFault) : Type 0 where
  pub bad_limit : (answer ≡ Err solve.BadLimit) ↔ IsBadLimit limit
  pub refused : IfErr answer (IsRefusal rows limit)
  pub exact : (answer ≡ Err solve.Memory → ⊥) → (answer ≡ Err solve.BadLimit → ⊥) → (IsOk answer ↔ IsAcceptable rows)

abbrev pub solve_fault_number : SolveFault → ℕ
solve_fault_number solve.BadLimit = 16
solve_fault_number (solve.Level fault) = board_fault_number fault
solve_fault_number solve.Memory = 40

abbrev pub solve_fault_words : SolveFault → List ℕ
solve_fault_words solve.BadLimit = codes "BadLimit"
solve_fault_words (solve.Level fault) = board_fault_words fault
solve_fault_words solve.Memory = codes "Memory"

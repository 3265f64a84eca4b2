-- How faults are printed: the number of each, and its name, followed by its arguments, each after one space.
use Rattle.std.specs.Prelude.{ℕ, List, ◌++◌, codes}
use Rattle.std.specs.Fmt.{decimal}
use Rattle.sok_rules.specs.declared.cell.Spot.{Spot}
use Rattle.sok_board.specs.declared.fault.BoardFault.{BoardFault}
use Rattle.sok_board.specs.declared.fault.BoardFault.TheVariants.{NotEnclosed, BoxOutside, TooFewGoals, TooLarge, TooManyBoxes, Memory}

abbrev pub board_fault_number : BoardFault → ℕ
board_fault_number (NotEnclosed spot) = 6
board_fault_number (BoxOutside spot) = 7
board_fault_number TooFewGoals = 8
board_fault_number TooLarge = 9
board_fault_number TooManyBoxes = 10
board_fault_number Memory = 40

-- a row and a column, as they are printed in arguments
abbrev pub spot_words : Spot → List ℕ
spot_words spot = decimal spot.row ++ codes " " ++ decimal spot.col

abbrev pub board_fault_words : BoardFault → List ℕ
board_fault_words (NotEnclosed spot) = codes "NotEnclosed " ++ spot_words spot
board_fault_words (BoxOutside spot) = codes "BoxOutside " ++ spot_words spot
board_fault_words TooFewGoals = codes "TooFewGoals"
board_fault_words TooLarge = codes "TooLarge"
board_fault_words TooManyBoxes = codes "TooManyBoxes"
board_fault_words Memory = codes "Memory"

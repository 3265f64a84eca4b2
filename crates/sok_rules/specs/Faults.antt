-- How faults are printed: the number of each, and its name, followed by one space and its argument if it has one.
use Rattle.std.specs.Prelude.{ℕ, List, ◌++◌, codes}
use Rattle.std.specs.Fmt.{decimal}
use Rattle.sok_rules.specs.declared.cell.Dir.{Dir}
use Rattle.sok_rules.specs.declared.cell.Dir.TheVariants.{Left, Up, Right, Down}
use Rattle.sok_rules.specs.declared.fault.LevelFault.{LevelFault}
use Rattle.sok_rules.specs.declared.fault.LevelFault.TheVariants as level
use Rattle.sok_rules.specs.declared.fault.PlayFault.{PlayFault}
use Rattle.sok_rules.specs.declared.fault.PlayFault.TheVariants as play

abbrev pub level_fault_number : LevelFault → ℕ
level_fault_number level.TooWide = 1
level_fault_number level.TooTall = 2
level_fault_number level.NoPlayer = 3
level_fault_number level.ManyPlayers = 4
level_fault_number level.NoBox = 5
level_fault_number level.NoSuchLevel = 15
level_fault_number (level.NoWall row) = 17
level_fault_number level.Memory = 40

abbrev pub level_fault_words : LevelFault → List ℕ
level_fault_words level.TooWide = codes "TooWide"
level_fault_words level.TooTall = codes "TooTall"
level_fault_words level.NoPlayer = codes "NoPlayer"
level_fault_words level.ManyPlayers = codes "ManyPlayers"
level_fault_words level.NoBox = codes "NoBox"
level_fault_words level.NoSuchLevel = codes "NoSuchLevel"
level_fault_words (level.NoWall row) = codes "NoWall " ++ decimal row
level_fault_words level.Memory = codes "Memory"

abbrev pub play_fault_number : PlayFault → ℕ
play_fault_number (play.Blocked at) = 12
play_fault_number play.TooLong = 14
play_fault_number play.Memory = 40

abbrev pub play_fault_words : PlayFault → List ℕ
play_fault_words (play.Blocked at) = codes "Blocked " ++ decimal at
play_fault_words play.TooLong = codes "TooLong"
play_fault_words play.Memory = codes "Memory"

-- the name of a direction, as it is printed in an argument
abbrev pub dir_word : Dir → List ℕ
dir_word Left = codes "left"
dir_word Up = codes "up"
dir_word Right = codes "right"
dir_word Down = codes "down"

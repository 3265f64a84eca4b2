-- The numbers and exit statuses of faults, and how faults of lower layers are passed on: their `Memory` becomes the program's own.
use Rattle.std.specs.Prelude.{ℕ, if◌then◌else◌, ◌==◌, ◌||◌, ◌&&◌, nat_le}
use Rattle.sok_rules.specs.declared.fault.LevelFault.{LevelFault}
use Rattle.sok_rules.specs.declared.fault.LevelFault.TheVariants as level
use Rattle.sok_rules.specs.declared.fault.PlayFault.{PlayFault}
use Rattle.sok_rules.specs.declared.fault.PlayFault.TheVariants as play
use Rattle.sok_rules.specs.Faults.{level_fault_number, play_fault_number}
use Rattle.sok_board.specs.declared.fault.BoardFault.{BoardFault}
use Rattle.sok_board.specs.declared.fault.BoardFault.TheVariants as board
use Rattle.sok_board.specs.Faults.{board_fault_number}
use Rattle.sok_text.specs.declared.lurd.LurdFault.{LurdFault}
use Rattle.sok_text.specs.declared.lurd.LurdFault.TheVariants as lurd
use Rattle.sok_text.specs.Lurd.{lurd_fault_number}
use Rattle.sok_book.specs.declared.fault.BookFault.{BookFault}
use Rattle.sok_book.specs.declared.fault.BookFault.TheVariants as book
use Rattle.sok_book.specs.Faults.{book_fault_number}
use Rattle.sok_engine.specs.declared.fault.ToolFault.{ToolFault}
use Rattle.sok_engine.specs.declared.fault.ToolFault.TheVariants as tool
use Rattle.sok_engine.specs.declared.input.InputFault.{InputFault}
use Rattle.sok_engine.specs.declared.input.InputFault.TheVariants as input

-- the numbers by which faults are printed
abbrev pub tool_fault_number : ToolFault → ℕ
tool_fault_number (tool.Level fault) = level_fault_number fault
tool_fault_number (tool.Board fault) = board_fault_number fault
tool_fault_number (tool.Lurd fault) = lurd_fault_number fault
tool_fault_number (tool.Play fault) = play_fault_number fault
tool_fault_number (tool.Book fault) = book_fault_number fault
tool_fault_number tool.BadLimit = 16
tool_fault_number tool.Memory = 40
tool_fault_number tool.ReadFailed = 50
tool_fault_number tool.WriteFailed = 51
tool_fault_number tool.TooMuch = 52

-- 1 if letters do not solve or a certificate is refused, 5 if a device or the database is at fault, 6 for memory, and 3 if the input is at fault
abbrev pub status_of : ℕ → ℕ
status_of n =
    if n == 13 || (nat_le 20 n && nat_le n 28) then 1
    else if n == 32 || n == 34 || n == 50 || n == 51 then 5
    else if n == 40 then 6
    else 3

abbrev pub tool_fault_status : ToolFault → ℕ
tool_fault_status fault = status_of (tool_fault_number fault)

abbrev pub of_level : LevelFault → ToolFault
of_level level.Memory = tool.Memory
of_level fault = tool.Level fault

abbrev pub of_board : BoardFault → ToolFault
of_board board.Memory = tool.Memory
of_board fault = tool.Board fault

abbrev pub of_lurd : LurdFault → ToolFault
of_lurd lurd.Memory = tool.Memory
of_lurd fault = tool.Lurd fault

abbrev pub of_play : PlayFault → ToolFault
of_play play.Memory = tool.Memory
of_play fault = tool.Play fault

abbrev pub of_book : BookFault → ToolFault
of_book book.Memory = tool.Memory
of_book fault = tool.Book fault

abbrev pub of_input : InputFault → ToolFault
of_input input.Memory = tool.Memory
of_input input.ReadFailed = tool.ReadFailed
of_input input.TooMuch = tool.TooMuch

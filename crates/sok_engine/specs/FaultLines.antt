-- How a fault is printed: the word `fault`, its number, its name and its arguments, each after one space.
use Rattle.std.specs.Prelude.{ℕ, List, ◌++◌, codes}
use Rattle.std.specs.Fmt.{decimal}
use Rattle.sok_rules.specs.Faults.{level_fault_number, level_fault_words, play_fault_number, play_fault_words}
use Rattle.sok_board.specs.Faults.{board_fault_number, board_fault_words}
use Rattle.sok_text.specs.Lurd.{lurd_fault_number, lurd_fault_words}
use Rattle.sok_book.specs.Faults.{book_fault_number, book_fault_words}
use Rattle.sok_engine.specs.declared.fault.ToolFault.{ToolFault}
use Rattle.sok_engine.specs.declared.fault.ToolFault.TheVariants as tool

abbrev told : ℕ → List ℕ → List ℕ
told number words = codes "fault " ++ decimal number ++ codes " " ++ words

abbrev pub fault_words : ToolFault → List ℕ
fault_words (tool.Level fault) = told (level_fault_number fault) (level_fault_words fault)
fault_words (tool.Board fault) = told (board_fault_number fault) (board_fault_words fault)
fault_words (tool.Lurd fault) = told (lurd_fault_number fault) (lurd_fault_words fault)
fault_words (tool.Play fault) = told (play_fault_number fault) (play_fault_words fault)
fault_words (tool.Book fault) = told (book_fault_number fault) (book_fault_words fault)
fault_words tool.BadLimit = codes "fault 16 BadLimit"
fault_words tool.Memory = codes "fault 40 Memory"
fault_words tool.ReadFailed = codes "fault 50 ReadFailed"
fault_words tool.WriteFailed = codes "fault 51 WriteFailed"
fault_words tool.TooMuch = codes "fault 52 TooMuch"

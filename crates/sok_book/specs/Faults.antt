-- How faults are printed: their numbers, and their names with their arguments, each after one space. Also, how faults of lower layers are passed on.
use Rattle.std.specs.Prelude.{ℕ, List, ◌++◌, codes}
use Rattle.std.specs.Fmt.{signed_decimal}
use Rattle.sok_rules.specs.declared.fault.PlayFault.{PlayFault}
use Rattle.sok_rules.specs.declared.fault.PlayFault.TheVariants as play
use Rattle.sok_rules.specs.Faults.{play_fault_number, play_fault_words}
use Rattle.sok_board.specs.Faults.{board_fault_number, board_fault_words}
use Rattle.sok_board.specs.declared.fault.BoardFault.{BoardFault}
use Rattle.sok_board.specs.declared.fault.BoardFault.TheVariants as board
use Rattle.sok_cert.specs.CertFault.{CertFault}
use Rattle.sok_cert.specs.CertFault.TheVariants as cert
use Rattle.sok_cert.specs.Faults.{cert_fault_number, cert_fault_words}
use Rattle.sok_book.specs.declared.fault.BookFault.{BookFault}
use Rattle.sok_book.specs.declared.fault.BookFault.TheVariants as book

abbrev pub book_fault_number : BookFault → ℕ
book_fault_number (book.Level fault) = board_fault_number fault
book_fault_number (book.Letters fault) = play_fault_number fault
book_fault_number book.NotSolved = 13
book_fault_number (book.Certificate fault) = cert_fault_number fault
book_fault_number book.NoLevel = 30
book_fault_number book.NoBest = 31
book_fault_number book.Database = 32
book_fault_number book.ClaimDiffers = 33
book_fault_number (book.BadBook id) = 34
book_fault_number book.BookFull = 35
book_fault_number book.Memory = 40

abbrev pub book_fault_words : BookFault → List ℕ
book_fault_words (book.Level fault) = board_fault_words fault
book_fault_words (book.Letters fault) = play_fault_words fault
book_fault_words book.NotSolved = codes "NotSolved"
book_fault_words (book.Certificate fault) = cert_fault_words fault
book_fault_words book.NoLevel = codes "NoLevel"
book_fault_words book.NoBest = codes "NoBest"
book_fault_words book.Database = codes "Database"
book_fault_words book.ClaimDiffers = codes "ClaimDiffers"
book_fault_words (book.BadBook id) = codes "BadBook " ++ signed_decimal id
book_fault_words book.BookFull = codes "BookFull"
book_fault_words book.Memory = codes "Memory"

abbrev pub of_board : BoardFault → BookFault
of_board board.Memory = book.Memory
of_board fault = book.Level fault

abbrev pub of_play : PlayFault → BookFault
of_play play.Memory = book.Memory
of_play fault = book.Letters fault

abbrev pub of_certificate : CertFault → BookFault
of_certificate cert.Memory = book.Memory
of_certificate fault = book.Certificate fault

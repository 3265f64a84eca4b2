-- How faults are printed: their numbers, and their names with arguments, each after one space.
use Rattle.std.specs.Prelude.{ℕ, List, ◌++◌, codes}
use Rattle.std.specs.Fmt.{decimal}
use Rattle.sok_rules.specs.Faults.{dir_word}
use Rattle.sok_entry.specs.declared.fault.CertFault.{CertFault}
use Rattle.sok_entry.specs.declared.fault.CertFault.TheVariants as cert

abbrev pub cert_fault_number : CertFault → ℕ
cert_fault_number cert.Header = 20
cert_fault_number (cert.Line n) = 21
cert_fault_number cert.Truncated = 22
cert_fault_number cert.Start = 23
cert_fault_number (cert.Duplicate i) = 24
cert_fault_number (cert.BadEntry i) = 25
cert_fault_number (cert.SolvedEntry i) = 26
cert_fault_number (cert.OpenPush i square d) = 27
cert_fault_number (cert.BadReason i) = 28
cert_fault_number cert.Memory = 40

abbrev pub cert_fault_words : CertFault → List ℕ
cert_fault_words cert.Header = codes "Header"
cert_fault_words (cert.Line n) = codes "Line " ++ decimal n
cert_fault_words cert.Truncated = codes "Truncated"
cert_fault_words cert.Start = codes "Start"
cert_fault_words (cert.Duplicate i) = codes "Duplicate " ++ decimal i
cert_fault_words (cert.BadEntry i) = codes "BadEntry " ++ decimal i
cert_fault_words (cert.SolvedEntry i) = codes "SolvedEntry " ++ decimal i
cert_fault_words (cert.OpenPush i square d) = codes "OpenPush " ++ decimal i ++ codes " " ++ decimal square ++ codes " " ++ dir_word d
cert_fault_words (cert.BadReason i) = codes "BadReason " ++ decimal i
cert_fault_words cert.Memory = codes "Memory"

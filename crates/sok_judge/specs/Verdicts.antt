-- The answer that reports what a certificate proves.
use Rattle.std.specs.Prelude.{ℕ, List, ◌++◌, Result, Ok, Err, codes}
use Rattle.std.specs.Fmt.{decimal}
use Rattle.sok_cert.specs.Claim.{Claim}
use Rattle.sok_cert.specs.Claim.TheVariants.{Pushes, Unsolvable}
use Rattle.sok_cert.specs.CertFault.{CertFault}
use Rattle.sok_cert.specs.Faults.{cert_fault_number, cert_fault_words}
use Rattle.sok_engine.specs.Written.{Answer}

-- the words for a true claim
abbrev pub accepted_words : Claim → List ℕ
accepted_words (Pushes k) = codes "accepted at least " ++ decimal k ++ codes " pushes"
accepted_words Unsolvable = codes "accepted unsolvable"

-- the words for the first fault: its number, its name and its arguments, each after one space
abbrev pub refused_words : CertFault → List ℕ
refused_words fault = codes "refused " ++ decimal (cert_fault_number fault) ++ codes " " ++ cert_fault_words fault

-- the answer that reports what a certificate proves: status 0 for a claim, and 1 for a fault
abbrev pub verdict_answer : Result Claim CertFault → Answer
verdict_answer (Ok claim) = record { text = accepted_words claim ++ codes "\n"; status = 0 }
verdict_answer (Err fault) = record { text = refused_words fault ++ codes "\n"; status = 1 }

-- The answers to a certificate for a level of a book, and the book after them.
use Rattle.std.specs.Prelude.{ℕ, ℤ, ◌≡◌, List, ◌++◌, Option, Result, Ok, Err, IfSome, codes}
use Rattle.std.specs.Fmt.{decimal}
use Rattle.sok_cert.specs.Claim.{Claim}
use Rattle.sok_cert.specs.Claim.TheVariants.{Pushes, Unsolvable}
use Rattle.sok_cert.specs.CertFault.{CertFault}
use Rattle.sok_book.specs.declared.fault.BookFault.TheVariants as refusal
use Rattle.sok_book.specs.declared.fault.BookFault.{BookFault}
use Rattle.sok_book.specs.Books.{Book}
use Rattle.sok_book.specs.Commands.{Proves}
use Rattle.sok_book.specs.Refusals.{IsNotProved}
use Rattle.sok_engine.specs.declared.fault.ToolFault.{ToolFault}
use Rattle.sok_engine.specs.declared.fault.ToolFault.TheVariants as tool
use Rattle.sok_engine.specs.Faults.{of_book}
use Rattle.sok_engine.specs.Inputs.{OfReader, Within}
use Rattle.sok_engine.specs.Limits.{cert_limit}
use Rattle.sok_engine.specs.Written.{Answer, Answers, Writes}
use Rattle.sok_judge.specs.Verdicts.{verdict_answer}
use Rattle.sok_store.specs.Calls.{id_number}
use Rattle.sok_keep.specs.Offers.{StaysOnFault}

abbrev pub proved_line : Claim → List ℕ
proved_line (Pushes k) = codes "proved optimal " ++ (decimal k ++ codes "\n")
proved_line Unsolvable = codes "proved unsolvable\n"

abbrev pub proved_answer : Claim → Answer
proved_answer claim = record { text = proved_line claim; status = 0 }

-- the command was done; or the certificate is refused, which is an answer; or the command is refused for another cause
pub data TellsProof (book : Book) (id : ℕ) (bytes : List ℕ) (after : Book) (answer : Result Answer ToolFault) : Type 0 where
  proved : (claim : Claim) → Proves book id bytes claim after → answer ≡ Ok (proved_answer claim) → TellsProof book id bytes after answer
  refused : (fault : CertFault) → IsNotProved book id bytes (refusal.Certificate fault) → after ≡ book → answer ≡ Ok (verdict_answer (Err fault))
      → TellsProof book id bytes after answer
  unproved : (cause : BookFault) → IsNotProved book id bytes cause → after ≡ book → answer ≡ Err (of_book cause) → TellsProof book id bytes after answer
  failed : after ≡ book → answer ≡ Err (tool.Book refusal.Database) → TellsProof book id bytes after answer

-- the answer to the bytes of a certificate for the level with this id; `after` is the book after it
abbrev pub IsProof : Book → ℤ → Book → List ℕ → Answers
IsProof book id after bytes = TellsProof book (id_number id) bytes after

-- the answer to the certificate that is left in a reader was written, and this is the book after the command
abbrev pub WritesProof : Book → ℤ → Option (List ℕ) → Book → Option (List ℕ) → Option (List ℕ) → Result ℕ ToolFault → Type 0
WritesProof book id known after old new result =
    Writes (OfReader known (Within cert_limit (IsProof book id after))) old new result × StaysOnFault book after result

-- a certificate with the bytes that are left in a reader makes this book
abbrev pub ProvesBytes : ℤ → Option (List ℕ) → Book → Book → Type 0
ProvesBytes id known book after =
    (bytes : List ℕ) × IfSome known (λ all. bytes ≡ all) × (claim : Claim) × Proves book (id_number id) bytes claim after

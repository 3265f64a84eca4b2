-- What is told of a certificate.
use Rattle.std.proofs.Common.{ℕ, ℤ, ◌≡◌, ◌⊎◌, ◌∙◌, ◌≤◌, ◌<◌, arith, inl, inr, List, Option, Result, Ok, Err, IfSome, ap, length, refl, subst, sym}
use Rattle.sqlite.specs.State.{State}
use Rattle.sok_cert.specs.Claim.{Claim}
use Rattle.sok_cert.specs.CertFault.{CertFault}
use Rattle.sok_book.specs.declared.fault.BookFault.{BookFault}
use Rattle.sok_book.specs.declared.fault.BookFault.TheVariants as refusal
use Rattle.sok_book.specs.Books.{Book}
use Rattle.sok_book.specs.Commands.{Proves}
use Rattle.sok_book.specs.Refusals.{IsNotProved}
use Rattle.sok_engine.specs.declared.fault.ToolFault.{ToolFault}
use Rattle.sok_engine.specs.declared.fault.ToolFault.TheVariants as tool
use Rattle.sok_engine.specs.declared.input.InputFault.{InputFault}
use Rattle.sok_engine.specs.declared.input.InputFault.TheVariants as input
use Rattle.sok_engine.specs.Faults.{of_book, of_input}
use Rattle.sok_engine.specs.Limits.{cert_limit}
use Rattle.sok_engine.specs.Written.{Answer, IsFaultOf, WritesOne}
use Rattle.sok_engine.proofs.Answering.{Writes-none, Writes-read, Writes-unread}
use Rattle.sok_judge.specs.Verdicts.{verdict_answer}
use Rattle.sok_store.specs.Faults.{IsOutside}
use Rattle.sok_store.specs.Calls.{ChangesBook, KeepsBook, StoresChange, id_number}
use Rattle.sok_store.proofs.Calls.{changes_more, keeps_turns, same_turns}
use Rattle.sok_keep.specs.Proves.{IsProof, WritesProof, failed, proved, proved_answer, refused, unproved}
use Rattle.sok_keep.proofs.Ending.{book_fault, stays_written}

-- a fault of the book is told
told_fault : (b : Book) (id : ℤ) (after : Book) (bytes : List ℕ) (fault : BookFault) → after ≡ b
    → IsOutside fault ⊎ IsNotProved b (id_number id) bytes fault → IsFaultOf (IsProof b id after bytes) (of_book fault)
told_fault b id after bytes fault same (inl (inl memory)) = subst (λ f. IsFaultOf (IsProof b id after bytes) (of_book f)) (sym memory) tt
told_fault b id after bytes fault same (inl (inr database)) =
    subst (λ f. IsFaultOf (IsProof b id after bytes) (of_book f)) (sym database) (failed same refl)
told_fault b id after bytes fault same (inr none) = book_fault (IsProof b id after bytes) fault (unproved fault none same refl)

-- a refused certificate ends with another status than a verdict that is proved
pub refused_status : (fault : BookFault) (answer : Answer) → (cause : CertFault) × (fault ≡ refusal.Certificate cause) × (answer ≡ verdict_answer (Err cause))
    → answer.status ≡ 0 → ⊥
refused_status fault answer (cause, is, says) zero =
    let one : 1 ≡ 0 = sym (ap (λ (a : Answer). a.status) says) ∙ zero in omega (arith, one)

-- the input was not read
pub proof_unread : (s : State) (id : ℤ) (known held : Option (List ℕ)) (fault : InputFault)
    → (fault ≡ input.TooMuch → IfSome known (λ all. cert_limit < length all))
    → ChangesBook s s (λ b after. WritesProof b id known after held held (Err (of_input fault)))
proof_unread s id known held fault much = same_turns _ (λ book. (Writes-unread cert_limit (IsProof book id book) known held fault much, inr refl))

module _ (old new : State) (id : ℤ) (read : List ℕ) (known : Option (List ℕ)) (all : IfSome known (λ all. read ≡ all)) (few : length read ≤ cert_limit) where
  -- the verdict is proved
  pub proof_done : (before later : Option (List ℕ)) (claim : Claim) (result : Result ℕ ToolFault)
      → StoresChange old new (λ b after. Proves b (id_number id) read claim after) → WritesOne (proved_answer claim) before later result
      → ChangesBook old new (λ b after. WritesProof b id known after before later result)
  proof_done before later claim result changes written = changes_more (λ book after proves. (
    Writes-read cert_limit (IsProof book id after) known before later read (proved_answer claim) result all few (proved claim proves refl) written,
    stays_written (proved_answer claim) before later result book after written,
  )) changes

  module _ (fault : BookFault) (keeps : KeepsBook old new (λ b. IsOutside fault ⊎ IsNotProved b (id_number id) read fault)) where
    -- the certificate is refused, which is an answer
    pub proof_refused : (before later : Option (List ℕ)) (answer : Answer) (result : Result ℕ ToolFault)
        → (cause : CertFault) × (fault ≡ refusal.Certificate cause) × (answer ≡ verdict_answer (Err cause)) → WritesOne answer before later result
        → ChangesBook old new (λ b after. WritesProof b id known after before later result)
    proof_refused before later answer result (cause, is, says) written = keeps_turns _ (λ book why.
        let none : IsNotProved book (id_number id) read (refusal.Certificate cause) = elim why [
          | inl (inl memory) ↦ absurd (let e = memory in cc)
          | inl (inr database) ↦ absurd (let e = database in cc)
          | inr none ↦ subst (IsNotProved book (id_number id) read) is none
        ] in
        let writes = Writes-read cert_limit (IsProof book id book) known before later read answer result all few (refused cause none refl (ap Ok says)) written in
        (writes, stays_written answer before later result book book written)) keeps

    -- another cause is told, or memory was refused
    pub proof_failed : (still : Option (List ℕ)) (told : ToolFault) → (told ≡ tool.Memory) ⊎ (told ≡ of_book fault)
        → ChangesBook old new (λ b after. WritesProof b id known after still still (Err told))
    proof_failed still told given = keeps_turns _ (λ book why.
        let is : IsFaultOf (IsProof book id book read) told = elim given [
          | inl memory ↦ subst (IsFaultOf (IsProof book id book read)) (sym memory) tt
          | inr same ↦ subst (IsFaultOf (IsProof book id book read)) (sym same) (told_fault book id book read fault refl why)
        ] in
        (Writes-none cert_limit (IsProof book id book) known still read told all few is, inr refl)) keeps

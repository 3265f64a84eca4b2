-- What two writers hold after a call that writes a certificate and then an answer.
use Rattle.std.specs.Prelude.{ℕ, ◌≡◌, ◌⊎◌, List, Option, Result, Ok, Err}
use Rattle.std.specs.Io.KnownBytes.{Appends, Keeps}
use Rattle.sok_engine.specs.declared.fault.ToolFault.{ToolFault}
use Rattle.sok_engine.specs.declared.fault.ToolFault.TheVariants as tool
use Rattle.sok_engine.specs.Written.{Answer, AnswersOf, AppendsFront}

-- the text of a certificate, which is empty if there is none, and the answer
pub record Certified : Type 0 where
  pub cert : List ℕ
  pub answer : Answer

-- the possible answers to something, or why it has no answer
abbrev pub CertifiedAnswers : Type 1
CertifiedAnswers = AnswersOf Certified

-- what a writer held before, and what it holds now
pub record Bytes : Type 0 where
  pub old : Option (List ℕ)
  pub new : Option (List ℕ)

-- a writer still holds what it held
abbrev pub Stays : Bytes → Type 0
Stays writer = Keeps writer.old writer.new

-- A write failed. Either a first part of the certificate was written, and nothing of the answer; or the whole certificate and a first part of the answer.
abbrev pub BreaksOff : Certified → Bytes → Bytes → Type 0
BreaksOff both cert out =
    (AppendsFront cert.old cert.new both.cert × Stays out)
    ⊎ (Appends cert.old cert.new both.cert × AppendsFront out.old out.new both.answer.text)

-- After a fault the writers still hold what they held. Only a failed write leaves more there.
abbrev pub EndsBothBy : CertifiedAnswers → Bytes → Bytes → ToolFault → Type 0
EndsBothBy P cert out tool.Memory = Stays cert × Stays out
EndsBothBy P cert out tool.ReadFailed = Stays cert × Stays out
EndsBothBy P cert out tool.WriteFailed = (both : Certified) × P (Ok both) × BreaksOff both cert out
EndsBothBy P cert out fault = P (Err fault) × Stays cert × Stays out

-- a certificate and then the text of its answer were written, and this is the status of the answer
abbrev pub WritesBoth : CertifiedAnswers → Bytes → Bytes → Result ℕ ToolFault → Type 0
WritesBoth P cert out (Ok status) =
    (both : Certified) × P (Ok both) × (status ≡ both.answer.status) × Appends cert.old cert.new both.cert × Appends out.old out.new both.answer.text
WritesBoth P cert out (Err fault) = EndsBothBy P cert out fault

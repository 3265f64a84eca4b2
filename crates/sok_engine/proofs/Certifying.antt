-- A certificate and then an answer, as they are written.
use Rattle.std.proofs.Common.{ℕ, ◌≡◌, ◌≤◌, ◌<◌, inl, inr, List, Option, Result, Ok, Err, IfSome, length, refl, subst, sym}
use Rattle.std.specs.Io.KnownBytes.{Appends}
use Rattle.std.proofs.KnownBytes.{Keeps-refl}
use Rattle.sok_engine.specs.declared.fault.ToolFault.{ToolFault}
use Rattle.sok_engine.specs.declared.fault.ToolFault.TheVariants as tool
use Rattle.sok_engine.specs.Certified.{Bytes, Certified, CertifiedAnswers, EndsBothBy, Stays, WritesBoth}
use Rattle.sok_engine.specs.declared.input.InputFault.{InputFault}
use Rattle.sok_engine.specs.declared.input.InputFault.TheVariants as input_fault
use Rattle.sok_engine.specs.Faults.{of_input}
use Rattle.sok_engine.specs.Inputs.{OfReader, Within}
use Rattle.sok_engine.specs.Written.{AppendsFront, IsFaultOf, WritesOne}
use Rattle.sok_engine.proofs.Answering.{IsFaultOf-read, Within-few, too_much}

-- the write of the certificate failed
pub WritesBoth-front : (P : CertifiedAnswers) (both : Certified) (cert out : Bytes) → P (Ok both) → AppendsFront cert.old cert.new both.cert → Stays out
    → WritesBoth P cert out (Err tool.WriteFailed)
WritesBoth-front P both cert out made front kept = (both, made, inl (front, kept))

-- the certificate was written, and then the answer, or a front of it
pub WritesBoth-answer : (P : CertifiedAnswers) (both : Certified) (cert out : Bytes) (result : Result ℕ ToolFault)
    → P (Ok both) → Appends cert.old cert.new both.cert → WritesOne both.answer out.old out.new result → WritesBoth P cert out result
WritesBoth-answer P both cert out (Ok status) made whole written = (both, made, written.0, whole, written.1)
WritesBoth-answer P both cert out (Err fault) made whole written = subst (EndsBothBy P cert out) (sym written.0) (both, made, inr (whole, written.1))

-- what was written is one of other answers, if all of them are
pub WritesBoth-weaker : (P Q : CertifiedAnswers) → ((answer : Result Certified ToolFault) → P answer → Q answer)
    → (cert out : Bytes) (result : Result ℕ ToolFault)
    → WritesBoth P cert out result → WritesBoth Q cert out result
WritesBoth-weaker P Q weaker cert out (Ok status) (both, made, is, cert_written, written) = (both, weaker (Ok both) made, is, cert_written, written)
WritesBoth-weaker P Q weaker cert out (Err tool.Memory) kept = kept
WritesBoth-weaker P Q weaker cert out (Err tool.ReadFailed) kept = kept
WritesBoth-weaker P Q weaker cert out (Err tool.WriteFailed) (both, made, broken) = (both, weaker (Ok both) made, broken)
WritesBoth-weaker P Q weaker cert out (Err fault) (made, cert_kept, kept) = (weaker (Err fault) made, cert_kept, kept)

-- a writer that was left alone
abbrev pub unchanged : Option (List ℕ) → Bytes
unchanged held = record { old = held; new = held }

-- a fault by which nothing is answered leaves both writers as they were
EndsBothBy-fault : (P : CertifiedAnswers) (cert out : Option (List ℕ)) (fault : ToolFault) → IsFaultOf P fault
    → EndsBothBy P (unchanged cert) (unchanged out) fault
EndsBothBy-fault P cert out tool.Memory is = (Keeps-refl cert, Keeps-refl out)
EndsBothBy-fault P cert out tool.ReadFailed is = absurd is
EndsBothBy-fault P cert out tool.WriteFailed is = absurd is
EndsBothBy-fault P cert out _ is = (is, Keeps-refl cert, Keeps-refl out)

-- all that a reader has left was read and answered, and both were written
pub WritesBoth-read : (limit : ℕ) (P : List ℕ → CertifiedAnswers) (input : Option (List ℕ)) (cert out : Bytes) (read : List ℕ) (both : Certified)
    (result : Result ℕ ToolFault) → IfSome input (λ bytes. read ≡ bytes) → length read ≤ limit → P read (Ok both)
    → WritesBoth (λ made. made ≡ Ok both) cert out result → WritesBoth (OfReader input (Within limit P)) cert out result
WritesBoth-read limit P input cert out read both result all few answered =
    let P_of = OfReader input (Within limit P) in
    WritesBoth-weaker (λ made. made ≡ Ok both) P_of
    (λ made same. subst P_of (sym same) (read, all, Within-few limit P read (Ok both) few answered)) cert out result

-- all was read, and it has no answer
pub WritesBoth-none : (limit : ℕ) (P : List ℕ → CertifiedAnswers) (input cert out : Option (List ℕ)) (read : List ℕ) (fault : ToolFault)
    → IfSome input (λ bytes. read ≡ bytes) → length read ≤ limit → IsFaultOf (P read) fault
    → WritesBoth (OfReader input (Within limit P)) (unchanged cert) (unchanged out) (Err fault)
WritesBoth-none limit P input cert out read fault all few is =
    EndsBothBy-fault (OfReader input (Within limit P)) cert out fault (IsFaultOf-read limit P input read fault all few is)

-- it was not read to its end
pub WritesBoth-unread : (limit : ℕ) (P : List ℕ → CertifiedAnswers) (input cert out : Option (List ℕ)) (fault : InputFault)
    → (fault ≡ input_fault.TooMuch → IfSome input (λ bytes. limit < length bytes))
    → WritesBoth (OfReader input (Within limit P)) (unchanged cert) (unchanged out) (Err (of_input fault))
WritesBoth-unread limit P input cert out input_fault.Memory much = (Keeps-refl cert, Keeps-refl out)
WritesBoth-unread limit P input cert out input_fault.ReadFailed much = (Keeps-refl cert, Keeps-refl out)
WritesBoth-unread limit P input cert out input_fault.TooMuch much = (too_much limit P input (much refl), Keeps-refl cert, Keeps-refl out)

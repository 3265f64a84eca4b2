-- What is answered to the bytes of files.
use Rattle.std.proofs.Common.{ℕ, ◌≡◌, inr, List, Option, Result, Err, Bool, true, false, length, nat_lt, subst, sym}
use Rattle.std.proofs.KnownBytes.{Keeps-refl}
use Rattle.sok_engine.specs.declared.fault.ToolFault.{ToolFault}
use Rattle.sok_engine.specs.declared.fault.ToolFault.TheVariants as tool
use Rattle.sok_engine.specs.Certified.{Bytes, CertifiedAnswers, WritesBoth}
use Rattle.sok_engine.specs.Inputs.{OfReader, UnlessMuch, Within}
use Rattle.sok_engine.specs.Written.{Answer, Answers, EndsBy, Writes}
use Rattle.sok_engine.proofs.Answering.{Writes-weaker}
use Rattle.sok_engine.proofs.Certifying.{WritesBoth-weaker}
use Rattle.sok_judge.proofs.Checking.{some_text}
use Rattle.sok_files.specs.Files.{OfFile, OfFiles}
use Rattle.sok_files.specs.Solving.{SolvesTo}

-- where a file can't be opened, nothing is written
pub Writes-unopened : (P : Answers) (held : Option (List ℕ)) (fault : ToolFault) → fault ≡ tool.ReadFailed → Writes P held held (Err fault)
Writes-unopened P held fault same = subst (EndsBy P held held) (sym same) (Keeps-refl held)

-- the answers to what an opened file has left are those to the file
pub Writes-file : (reads : Option (List ℕ) → Type 0) (P : List ℕ → Answers) (known old new : Option (List ℕ)) (result : Result ℕ ToolFault)
    → reads known → Writes (OfReader known P) old new result → Writes (OfFile reads P) old new result
Writes-file reads P known old new result may = Writes-weaker (OfReader known P) (OfFile reads P) (λ answer is. (known, may, is)) old new result

UnlessMuch-text : (cert : Option (List ℕ)) (P : List ℕ → Answers) (much : Bool) (answer : Result Answer ToolFault) → UnlessMuch much (OfReader cert P) answer
    → OfReader cert (λ text. UnlessMuch much (P text)) answer
UnlessMuch-text cert P true answer much = let (text, told) = some_text cert in (text, told, much)
UnlessMuch-text cert P false answer is = is

-- the same of two files
pub Writes-files : (reads reads_text : Option (List ℕ) → Type 0) (limit : ℕ) (P : List ℕ → List ℕ → Answers) (known cert old new : Option (List ℕ))
    (result : Result ℕ ToolFault) → reads known → reads_text cert
    → Writes (OfReader known (Within limit (λ bytes. OfReader cert (λ text. P text bytes)))) old new result
    → Writes (OfFiles reads reads_text (λ text. Within limit (P text))) old new result
Writes-files reads reads_text limit P known cert old new result may may_text =
    let read : Answers = OfReader known (Within limit (λ bytes. OfReader cert (λ text. P text bytes))) in
    let of_both : (answer : Result Answer ToolFault) → read answer → OfFiles reads reads_text (λ text. Within limit (P text)) answer =
    λ answer is.
    let (bytes, told, said) = is in
    let (text, told_text, within) = UnlessMuch-text cert (λ t. P t bytes) (nat_lt limit (length bytes)) answer said in
    (cert, may_text, text, told_text, (known, may, (bytes, told, within))) in
    Writes-weaker read (OfFiles reads reads_text (λ text. Within limit (P text))) of_both old new result

-- the solver's answers to what an opened file has left are those to the file
pub SolvesTo-file : (reads : Option (List ℕ) → Type 0) (P : List ℕ → CertifiedAnswers) (IsPlace : Bytes → Type 0) (known : Option (List ℕ)) (cert out : Bytes)
    (result : Result ℕ ToolFault) → reads known → IsPlace cert → WritesBoth (OfReader known P) cert out result → SolvesTo (OfFile reads P) IsPlace out result
SolvesTo-file reads P IsPlace known cert out result may goes written =
    inr (cert, goes, WritesBoth-weaker (OfReader known P) (OfFile reads P) (λ answer is. (known, may, is)) cert out result written)

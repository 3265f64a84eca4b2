-- What an answer is, and what a writer holds after a call that makes and writes one.
use Rattle.std.specs.Prelude.{ℕ, ◌≡◌, ◌<◌, List, Option, Result, Ok, Err, length, take, ⊤}
use Rattle.std.specs.Io.KnownBytes.{Appends, Keeps}
use Rattle.sok_engine.specs.declared.fault.ToolFault.{ToolFault}
use Rattle.sok_engine.specs.declared.fault.ToolFault.TheVariants as tool

-- a text to write, and the status to end with
pub record Answer : Type 0 where
  pub text : List ℕ
  pub status : ℕ

-- the possible answers of one kind to something, or why it has none
abbrev pub AnswersOf : Type 0 → Type 1
AnswersOf A = Result A ToolFault → Type 0

-- the answers that are a text to write
abbrev pub Answers : Type 1
Answers = AnswersOf Answer

-- there is at most one answer
abbrev pub HasOne : Answers → Type 0
HasOne P = (a b : Result Answer ToolFault) → P a → P b → a ≡ b

-- a first part of the text, but not all of it, is appended to the known bytes
abbrev pub AppendsFront : Option (List ℕ) → Option (List ℕ) → List ℕ → Type 0
AppendsFront old new text = (n : ℕ) × (n < length text) × Appends old new (take n text)

-- why no answer is made: memory was refused, or this fault is one of the answers; it can't be a fault of a device, since none is used
abbrev pub IsFaultOf : {A : Type 0} → AnswersOf A → ToolFault → Type 0
IsFaultOf P tool.Memory = ⊤
IsFaultOf P tool.ReadFailed = ⊥
IsFaultOf P tool.WriteFailed = ⊥
IsFaultOf P fault = P (Err fault)

-- the result is one of the answers, unless memory was refused
abbrev pub Gives : {A : Type 0} → AnswersOf A → Result A ToolFault → Type 0
Gives P (Ok answer) = P (Ok answer)
Gives P (Err fault) = IsFaultOf P fault

-- an answer was written, and this is its status; or a write failed after a first part of its text
abbrev pub WritesOne : Answer → Option (List ℕ) → Option (List ℕ) → Result ℕ ToolFault → Type 0
WritesOne answer old new (Ok status) = (status ≡ answer.status) × Appends old new answer.text
WritesOne answer old new (Err fault) = (fault ≡ tool.WriteFailed) × AppendsFront old new answer.text

-- After a fault a writer still holds what it held. Only a failed write leaves more there: a first part of the answer.
abbrev pub EndsBy : Answers → Option (List ℕ) → Option (List ℕ) → ToolFault → Type 0
EndsBy P old new tool.Memory = Keeps old new
EndsBy P old new tool.ReadFailed = Keeps old new
EndsBy P old new tool.WriteFailed = (answer : Answer) × P (Ok answer) × AppendsFront old new answer.text
EndsBy P old new fault = P (Err fault) × Keeps old new

-- the text of one of the answers was appended to a writer, once, and this is its status; or the call ended with a fault
abbrev pub Writes : Answers → Option (List ℕ) → Option (List ℕ) → Result ℕ ToolFault → Type 0
Writes P old new (Ok status) = (answer : Answer) × P (Ok answer) × (status ≡ answer.status) × Appends old new answer.text
Writes P old new (Err fault) = EndsBy P old new fault

-- Answers to an input, and what writing one leaves.
use Rattle.std.proofs.Common.{ℕ, ◌≡◌, ◌≤◌, ◌<◌, ◌∷◌, List, [], Option, Some, None, Result, Ok, Err, IfSome, true, false, nat_lt, length, refl, subst, sym}
use Rattle.std.proofs.Common.{arith, suc, zero}
use Rattle.std.proofs.lemmas.Bool.Decides.{nat_tests}
use Rattle.std.specs.Io.KnownBytes.{Keeps}
use Rattle.std.proofs.KnownBytes.{Keeps-refl}
use Rattle.sok_engine.specs.declared.fault.ToolFault.{ToolFault}
use Rattle.sok_engine.specs.declared.fault.ToolFault.TheVariants as tool
use Rattle.sok_engine.specs.declared.input.InputFault.{InputFault}
use Rattle.sok_engine.specs.declared.input.InputFault.TheVariants as input_fault
use Rattle.sok_engine.specs.Faults.{of_input}
use Rattle.sok_engine.specs.Inputs.{OfReader, UnlessMuch, Within}
use Rattle.sok_engine.specs.Written.{Answer, Answers, AnswersOf, EndsBy, IsFaultOf, Writes, WritesOne}

-- bytes that are not too many are answered
pub Within-few : {A : Type 0} (limit : ℕ) (P : List ℕ → AnswersOf A) (bytes : List ℕ) (answer : Result A ToolFault) → length bytes ≤ limit → P bytes answer
    → Within limit P bytes answer
Within-few limit P bytes answer few answered =
    let within : nat_lt limit (length bytes) ≡ false = grind (arith, nat_tests) in
    subst (λ much. UnlessMuch much (P bytes) answer) (sym within) answered

pub Within-much : {A : Type 0} (limit : ℕ) (P : List ℕ → AnswersOf A) (bytes : List ℕ) → limit < length bytes → Within limit P bytes (Err tool.TooMuch)
Within-much limit P bytes many =
    let past : nat_lt limit (length bytes) ≡ true = grind (arith, nat_tests) in
    subst (λ much. UnlessMuch much (P bytes) (Err tool.TooMuch)) (sym past) refl

-- there are bytes that are too many
some_longer : (n : ℕ) → (xs : List ℕ) × (n < length xs)
some_longer zero = (0 ∷ [], omega arith)
some_longer (suc n) = let (xs, longer) = some_longer n in (0 ∷ xs, omega (arith, longer))

pub too_much : {A : Type 0} (limit : ℕ) (P : List ℕ → AnswersOf A) (input : Option (List ℕ)) → IfSome input (λ bytes. limit < length bytes)
    → OfReader input (Within limit P) (Err tool.TooMuch)
too_much limit P None much = let (bytes, longer) = some_longer limit in (bytes, tt, Within-much limit P bytes longer)
too_much limit P (Some bytes) much = (bytes, refl, Within-much limit P bytes much)

-- a fault by which nothing is answered leaves the writer as it was
pub EndsBy-fault : (P : Answers) (old new : Option (List ℕ)) (fault : ToolFault) → IsFaultOf P fault → Keeps old new → EndsBy P old new fault
EndsBy-fault P old new tool.Memory is kept = kept
EndsBy-fault P old new tool.ReadFailed is kept = absurd is
EndsBy-fault P old new tool.WriteFailed is kept = absurd is
EndsBy-fault P old new _ is kept = (is, kept)

pub IsFaultOf-weaker : {A : Type 0} (P Q : AnswersOf A) → ((fault : ToolFault) → P (Err fault) → Q (Err fault))
    → (fault : ToolFault) → IsFaultOf P fault → IsFaultOf Q fault
IsFaultOf-weaker P Q weaker tool.Memory is = tt
IsFaultOf-weaker P Q weaker tool.ReadFailed is = absurd is
IsFaultOf-weaker P Q weaker tool.WriteFailed is = absurd is
IsFaultOf-weaker P Q weaker fault is = weaker fault is

-- the fault of what was read is one of what the reader has left
pub IsFaultOf-read : {A : Type 0} (limit : ℕ) (P : List ℕ → AnswersOf A) (input : Option (List ℕ)) (read : List ℕ) (fault : ToolFault)
    → IfSome input (λ bytes. read ≡ bytes) → length read ≤ limit → IsFaultOf (P read) fault → IsFaultOf (OfReader input (Within limit P)) fault
IsFaultOf-read limit P input read fault all few =
    IsFaultOf-weaker (P read) (OfReader input (Within limit P)) (λ f is. (read, all, Within-few limit P read (Err f) few is)) fault

-- what was written is one of other answers, if all of them are
pub Writes-weaker : (P Q : Answers) → ((answer : Result Answer ToolFault) → P answer → Q answer) → (old new : Option (List ℕ)) (result : Result ℕ ToolFault)
    → Writes P old new result → Writes Q old new result
Writes-weaker P Q weaker old new (Ok status) (answer, answers, is, appended) = (answer, weaker (Ok answer) answers, is, appended)
Writes-weaker P Q weaker old new (Err tool.Memory) kept = kept
Writes-weaker P Q weaker old new (Err tool.ReadFailed) kept = kept
Writes-weaker P Q weaker old new (Err tool.WriteFailed) (answer, answers, front) = (answer, weaker (Ok answer) answers, front)
Writes-weaker P Q weaker old new (Err fault) written = (weaker (Err fault) written.0, written.1)

pub Writes-one : (P : Answers) (old new : Option (List ℕ)) (answer : Answer) (result : Result ℕ ToolFault)
    → P (Ok answer) → WritesOne answer old new result → Writes P old new result
Writes-one P old new answer (Ok status) made written = (answer, made, written.0, written.1)
Writes-one P old new answer (Err fault) made written = subst (EndsBy P old new) (sym written.0) (answer, made, written.1)

-- all that a reader has left was read and answered, and the answer was written
pub Writes-read : (limit : ℕ) (P : List ℕ → Answers) (input old new : Option (List ℕ)) (read : List ℕ) (answer : Answer) (result : Result ℕ ToolFault)
    → IfSome input (λ bytes. read ≡ bytes) → length read ≤ limit → P read (Ok answer) → WritesOne answer old new result
    → Writes (OfReader input (Within limit P)) old new result
Writes-read limit P input old new read answer result all few answered written =
    Writes-one (OfReader input (Within limit P)) old new answer result (read, all, Within-few limit P read (Ok answer) few answered) written

-- all was read, and it has no answer
pub Writes-none : (limit : ℕ) (P : List ℕ → Answers) (input held : Option (List ℕ)) (read : List ℕ) (fault : ToolFault)
    → IfSome input (λ bytes. read ≡ bytes) → length read ≤ limit → IsFaultOf (P read) fault
    → Writes (OfReader input (Within limit P)) held held (Err fault)
Writes-none limit P input held read fault all few is =
    EndsBy-fault (OfReader input (Within limit P)) held held fault (IsFaultOf-read limit P input read fault all few is) (Keeps-refl held)

-- it was not read to its end
pub Writes-unread : (limit : ℕ) (P : List ℕ → Answers) (input held : Option (List ℕ)) (fault : InputFault)
    → (fault ≡ input_fault.TooMuch → IfSome input (λ bytes. limit < length bytes)) → Writes (OfReader input (Within limit P)) held held (Err (of_input fault))
Writes-unread limit P input held input_fault.Memory much = Keeps-refl held
Writes-unread limit P input held input_fault.ReadFailed much = Keeps-refl held
Writes-unread limit P input held input_fault.TooMuch much = (too_much limit P input (much refl), Keeps-refl held)

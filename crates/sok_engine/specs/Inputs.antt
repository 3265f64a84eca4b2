-- The answers to a reader, to an input that may be too long, and to a level that may be faulty; otherwise they depend on the request.
use Rattle.std.specs.Prelude.{ℕ, ◌≡◌, List, Option, Result, Ok, Err, Bool, true, false, IfSome, length, nat_lt}
use Rattle.sok_rules.specs.declared.fault.LevelFault.{LevelFault}
use Rattle.sok_rules.specs.Squares.{Rows}
use Rattle.sok_engine.specs.declared.fault.ToolFault.TheVariants as tool
use Rattle.sok_engine.specs.Faults.{of_level}
use Rattle.sok_engine.specs.Written.{AnswersOf}

-- `TooMuch`, or the answers to bytes that are not too many
abbrev pub UnlessMuch : {A : Type 0} → Bool → AnswersOf A → AnswersOf A
UnlessMuch true P answer = answer ≡ Err tool.TooMuch
UnlessMuch false P answer = P answer

abbrev pub Within : {A : Type 0} → ℕ → (List ℕ → AnswersOf A) → List ℕ → AnswersOf A
Within limit P bytes = UnlessMuch (nat_lt limit (length bytes)) (P bytes)

-- the answers to the bytes that are left in a reader; if these are not known, to some bytes
abbrev pub OfReader : {A : Type 0} → Option (List ℕ) → (List ℕ → AnswersOf A) → AnswersOf A
OfReader known P answer = (bytes : List ℕ) × IfSome known (λ all. bytes ≡ all) × P bytes answer

-- the fault of a level, or the answers to its rows
abbrev pub OnLevel : {A : Type 0} → (Rows → AnswersOf A) → Result Rows LevelFault → AnswersOf A
OnLevel P (Err fault) answer = answer ≡ Err (of_level fault)
OnLevel P (Ok rows) answer = P rows answer

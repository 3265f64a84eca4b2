-- The line of a fault that does not end the call. The proof's own: how a line is written.
use Rattle.std.specs.Prelude.{ℕ, ℤ, ◌≡◌, ◌≢◌, ◌⊎◌, List, ◌++◌, Option, Bool, false, Result, Ok, Err, codes}
use Rattle.std.specs.Fmt.{signed_decimal}
use Rattle.std.specs.Io.KnownBytes.{Appends, Keeps}
use Rattle.sok_text.specs.declared.lurd.LurdFault.{LurdFault}
use Rattle.sok_text.specs.declared.lurd.LurdFault.TheVariants as lurd
use Rattle.sok_book.specs.declared.fault.BookFault.{BookFault}
use Rattle.sok_engine.specs.declared.fault.ToolFault.{ToolFault}
use Rattle.sok_engine.specs.declared.fault.ToolFault.TheVariants as tool
use Rattle.sok_engine.specs.FaultLines.{fault_words}
use Rattle.sok_engine.specs.Faults.{of_book, of_lurd}
use Rattle.sok_engine.specs.Written.{AppendsFront}
use Rattle.sok_store.specs.Faults.{IsOutside}

-- the id of a level, and its fault
abbrev pub fault_line : ℤ → ToolFault → List ℕ
fault_line id fault = signed_decimal id ++ (codes " " ++ (fault_words fault ++ codes "\n"))

-- a line was written, of what is well done or not; or a front of it was
abbrev pub TellsLine : List ℕ → Bool → Option (List ℕ) → Option (List ℕ) → Result Bool ToolFault → Type 0
TellsLine line well old new (Ok told) = (told ≡ well) × Appends old new line
TellsLine line well old new (Err fault) = (fault ≡ tool.WriteFailed) × AppendsFront old new line

-- the line of a fault was written so; or memory was refused for it
abbrev pub TellsFault : ℤ → ToolFault → Option (List ℕ) → Option (List ℕ) → Result Bool ToolFault → Type 0
TellsFault id fault old new result = ((result ≡ Err tool.Memory) × Keeps old new) ⊎ TellsLine (fault_line id fault) false old new result

-- if a text does not spell letters, its line was written; want of memory ends the call without a line
abbrev pub TellsUnread : ℤ → LurdFault → Option (List ℕ) → Option (List ℕ) → Result Bool ToolFault → Type 0
TellsUnread id fault old new result =
    ((fault ≡ lurd.Memory) × (result ≡ Err tool.Memory) × Keeps old new) ⊎ ((fault ≢ lurd.Memory) × TellsFault id (of_lurd fault) old new result)

-- if the book refuses letters, their line was written; a fault that is not of the offer ends the call
abbrev pub TellsRefused : ℤ → BookFault → Option (List ℕ) → Option (List ℕ) → Result Bool ToolFault → Type 0
TellsRefused id fault old new result =
    (IsOutside fault × (result ≡ Err (of_book fault)) × Keeps old new) ⊎ ((IsOutside fault → ⊥) × TellsFault id (of_book fault) old new result)

-- The status with which the program ends, and what it has written by then.
use Rattle.std.specs.Prelude.{ℕ, ◌≡◌, ◌⊎◌, List, ◌++◌, Option, Result, Ok, Err, codes}
use Rattle.std.specs.Io.KnownBytes.{Appends, Keeps}
use Rattle.sok_engine.specs.declared.fault.ToolFault.{ToolFault}
use Rattle.sok_engine.specs.FaultLines.{fault_words}
use Rattle.sok_engine.specs.Faults.{tool_fault_status}
use Rattle.sok_engine.specs.Written.{Answers, AppendsFront, Writes}

-- a text was written as far as the stream took it: the known bytes grow by the text or by a front of it
abbrev pub AppendsUpTo : Option (List ℕ) → Option (List ℕ) → List ℕ → Type 0
AppendsUpTo old new text = Appends old new text ⊎ AppendsFront old new text

-- the line that reports a fault
abbrev pub fault_line : ToolFault → List ℕ
fault_line fault = fault_words fault ++ codes "\n"

-- The exit status: that of the answer, with nothing on the error stream; or that of the fault, with its line on the error stream.
abbrev pub Ends : Result ℕ ToolFault → Option (List ℕ) → Option (List ℕ) → ℕ → Type 0
Ends (Ok status) old new exit = (exit ≡ status) × Keeps old new
Ends (Err fault) old new exit = (exit ≡ tool_fault_status fault) × AppendsUpTo old new (fault_line fault)

-- one of the answers is written to the output, and the program ends with its status, or with that of the fault
abbrev pub Runs : Answers → Option (List ℕ) → Option (List ℕ) → Option (List ℕ) → Option (List ℕ) → ℕ → Type 0
Runs P old new err_old err_new exit = (result : Result ℕ ToolFault) × Writes P old new result × Ends result err_old err_new exit

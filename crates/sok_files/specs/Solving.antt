-- What an output holds after a call that opens a file and solves a level of it, with a certificate in another file or without one.
use Rattle.std.specs.Prelude.{ℕ, ◌≡◌, ◌≢◌, ◌⊎◌, List, Option, Some, None, Result, Err}
use Rattle.sok_engine.specs.declared.fault.ToolFault.{ToolFault}
use Rattle.sok_engine.specs.declared.fault.ToolFault.TheVariants as tool
use Rattle.sok_engine.specs.Certified.{Bytes, CertifiedAnswers, Stays, WritesBoth}
use Rattle.sok_engine.specs.Inputs.{Within}
use Rattle.sok_engine.specs.Limits.{input_limit}
use Rattle.sok_engine.specs.Written.{Writes}
use Rattle.sok_solve.specs.declared.task.Task.{Task}
use Rattle.sok_solve.specs.Solves.{IsFind, IsSolve}
use Rattle.sok_files.specs.Files.{OfFile}

-- the call did not begin: memory was refused, a file can't be opened, or one may not be made
abbrev pub IsUnbegun : Result ℕ ToolFault → Type 0
IsUnbegun result = (result ≡ Err tool.Memory) ⊎ (result ≡ Err tool.ReadFailed) ⊎ (result ≡ Err tool.WriteFailed)

-- One of the answers is written to the output, after its certificate was written to such a writer. Or nothing is written, since the call did not begin.
abbrev pub SolvesTo : CertifiedAnswers → (Bytes → Type 0) → Bytes → Result ℕ ToolFault → Type 0
SolvesTo P IsPlace out result = (IsUnbegun result × Stays out) ⊎ ((cert : Bytes) × IsPlace cert × WritesBoth P cert out result)

-- A level of a file is solved. If a path is given, which is another one than the file's, the certificate goes to the file that is made there. Otherwise there is
-- no certificate.
abbrev pub SolvesLevel : List ℕ → (Option (List ℕ) → Type 0) → (List ℕ → Bytes → Type 0) → Task → Option (List ℕ) → Bytes → Result ℕ ToolFault → Type 0
SolvesLevel file reads makes task (Some path) out result =
    SolvesTo (OfFile reads (Within input_limit (IsSolve task))) (λ cert. (file ≢ path) × makes path cert) out result
SolvesLevel file reads makes task None out result = Writes (OfFile reads (Within input_limit (IsFind task))) out.old out.new result

-- What becomes of the certificates of a settling.
use Rattle.std.specs.Prelude.{ℕ, ℤ, Result, Ok, Err, ⊤}
use Rattle.sok_rules.specs.Squares.{Rows}
use Rattle.sok_cert.specs.Claim.{Claim}
use Rattle.sok_engine.specs.declared.fault.ToolFault.{ToolFault}
use Rattle.sok_engine.specs.declared.fault.ToolFault.TheVariants as tool

-- What may become of the certificate of the level with an id, which has these rows, after a search within a limit: one for a claim is kept; or it can't be
-- written.
pub record Keeping : Type 1 where
  pub keeps : ℕ → ℤ → Rows → Claim → Type 0
  pub unwritten : ℕ → ℤ → Rows → Type 0

-- if none are kept
abbrev pub no_certs : Keeping
no_certs = record { keeps = λ limit id rows shown. ⊤; unwritten = λ limit id rows. ⊥ }

-- a certificate was kept; or memory was refused; or it can't be written, if that may happen
abbrev pub TellsKept : {X : Type 0} → Keeping → ℕ → ℤ → Rows → Claim → Result X ToolFault → Type 0
TellsKept keeping limit id rows shown (Ok x) = keeping.keeps limit id rows shown
TellsKept keeping limit id rows shown (Err tool.Memory) = ⊤
TellsKept keeping limit id rows shown (Err tool.WriteFailed) = keeping.unwritten limit id rows
TellsKept keeping limit id rows shown (Err fault) = ⊥

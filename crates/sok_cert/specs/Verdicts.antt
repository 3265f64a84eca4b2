-- What the text of a certificate shows of a board.
use Rattle.std.specs.Prelude.{ℕ, ◌≢◌, ◌⊎◌, List, Result, Ok, Err}
use Rattle.sok_board.specs.Area.{BoardView}
use Rattle.sok_entry.specs.declared.claim.Claim.{Claim}
use Rattle.sok_entry.specs.declared.entry.Entry.{Entry}
use Rattle.sok_entry.specs.declared.fault.CertFault.{CertFault}
use Rattle.sok_entry.specs.declared.fault.CertFault.TheVariants.{Memory}
use Rattle.sok_entry.specs.Reading.{GoesWrong}
use Rattle.sok_entry.specs.Text.{SpellsCertificate}
use Rattle.sok_cert.specs.Closed.{IsClosed, IsTrueOf}
use Rattle.sok_cert.specs.Refusals.{IsRefused}

-- the text is a closed certificate, and its claim is true of the level
pub record IsProofOf (b : BoardView) (text : List ℕ) (claim : Claim) : Type 0 where
  pub entries : List Entry
  pub spelled : SpellsCertificate text claim entries
  pub closed : IsClosed b claim entries
  pub true_claim : IsTrueOf b.rows claim

-- the text is a certificate that is not closed, and this is its first fault
pub record IsRefusedText (b : BoardView) (text : List ℕ) (fault : CertFault) : Type 0 where
  pub claim : Claim
  pub entries : List Entry
  pub spelled : SpellsCertificate text claim entries
  pub refused : IsRefused b claim entries fault

-- a claim that the text shows, or the fault of the text or of the certificate that it spells
abbrev pub IsVerdict : BoardView → List ℕ → Result Claim CertFault → Type 0
IsVerdict b text (Ok claim) = IsProofOf b text claim
IsVerdict b text (Err fault) = (fault ≢ Memory) × (GoesWrong text fault ⊎ IsRefusedText b text fault)

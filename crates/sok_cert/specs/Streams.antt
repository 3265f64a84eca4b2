-- What a stream knows of the bytes that it has read.
use Rattle.std.specs.Prelude.{ℕ, ◌≡◌, ◌++◌, List, Option, Some, None, length}
use Rattle.sok_board.specs.Area.{BoardView}
use Rattle.sok_entry.specs.declared.claim.Claim.{Claim}
use Rattle.sok_entry.specs.declared.entry.Entry.{Entry}
use Rattle.sok_entry.specs.declared.fault.CertFault.{CertFault}
use Rattle.sok_entry.specs.declared.stage.Stage.{Stage}
use Rattle.sok_entry.specs.Reading.{GoesWrong}
use Rattle.sok_entry.specs.Stages.{IsSplit, IsStage, MayClaim}
use Rattle.sok_entry.specs.Text.{SpellsCertificate}
use Rattle.sok_cert.specs.Rosters.{Rostered, TellsEntries}

-- What was read so far: what comes next, the number of ended lines, the bytes of the line that has no end yet, the fault of the text if it is known, and the
-- judged entries.
pub record Progressed : Type 0 where
  pub stage : Stage
  pub lines : ℕ
  pub line : List ℕ
  pub wrong : Option CertFault
  pub roster : Rostered

-- these lines, with these entries, bring the certificate to a stage, and the roster has judged each entry
pub record AreJudged (b : BoardView) (stage : Stage) (roster : Rostered) (ls : List (List ℕ)) (entries : List Entry) : Type 0 where
  pub at : IsStage ls entries stage
  pub tells : (claim : Claim) → MayClaim stage claim → TellsEntries b claim entries roster.roll roster.fault

-- the same of a text: its ended lines bring the certificate there, and the rest is the line that has no end yet
pub record IsReadSo (b : BoardView) (text : List ℕ) (p : Progressed) : Type 0 where
  pub passed : List (List ℕ)
  pub entries : List Entry
  pub split : IsSplit text passed p.line
  pub count : length passed ≡ p.lines
  pub judged : AreJudged b p.stage p.roster passed entries

abbrev pub StandsBy : BoardView → List ℕ → Progressed → Option CertFault → Type 0
StandsBy b text p None = IsReadSo b text p
StandsBy b text p (Some fault) = (more : List ℕ) → GoesWrong (text ++ more) fault

-- The text is what was read: its lines, entries and faults. Or it goes wrong with a known fault, whatever follows.
abbrev pub StandsFor : BoardView → List ℕ → Progressed → Type 0
StandsFor b text p = StandsBy b text p p.wrong

-- a stream, with the board that its certificate is judged on
pub record Streamed : Type 0 where
  pub board : BoardView
  pub progress : Progressed

-- the end of a stream
pub record Ending : Type 0 where
  pub board : BoardView
  pub claim : Claim
  pub roster : Rostered

-- the text is a certificate with this claim, and the roster has judged its entries
pub record EndsFor (text : List ℕ) (e : Ending) : Type 0 where
  pub entries : List Entry
  pub spelled : SpellsCertificate text e.claim entries
  pub tells : TellsEntries e.board e.claim entries e.roster.roll e.roster.fault

-- the end of a stream with this progress and this claim
abbrev pub ending_of : BoardView → Claim → Progressed → Ending
ending_of b claim p = record { board = b; claim = claim; roster = p.roster }

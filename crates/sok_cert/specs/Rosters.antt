-- The entries of a certificate, judged one by one.
use Rattle.std.specs.Prelude.{List, Option, Some, None, length}
use Rattle.sok_board.specs.Area.{BoardView, boxes_of}
use Rattle.sok_closed.specs.Fine as fine
pub use Rattle.sok_closed.specs.Fine.{IsOfBoard}
use Rattle.sok_closed.specs.Lookup.{Rolled}
use Rattle.sok_entry.specs.declared.claim.Claim.{Claim}
use Rattle.sok_entry.specs.declared.entry.Entry.{Entry}
use Rattle.sok_entry.specs.declared.fault.CertFault.{CertFault}
use Rattle.sok_entry.specs.declared.fault.CertFault.TheVariants as fault
use Rattle.sok_cert.specs.Closed.{IsBarredBy, node_of}
use Rattle.sok_cert.specs.Refusals.{IsRefused}

-- the states of the entries up to the first with a fault of its own, and that fault
pub record Rostered : Type 0 where
  pub roll : Rolled
  pub fault : Option CertFault

-- the entries are fine, and the roll has their states
abbrev pub AreEntered : BoardView → Claim → List Entry → Rolled → Type 0
AreEntered b claim entries roll = fine.AreEntered node_of b (length (boxes_of b)) (IsBarredBy b claim) entries roll

-- a fault that a single entry can have
abbrev pub IsOwn : CertFault → Type 0
IsOwn (fault.BadEntry i) = Unit {0}
IsOwn (fault.Duplicate i) = Unit {0}
IsOwn (fault.SolvedEntry i) = Unit {0}
IsOwn (fault.BadReason i) = Unit {0}
IsOwn fault.Header = ⊥
IsOwn (fault.Line n) = ⊥
IsOwn fault.Truncated = ⊥
IsOwn fault.Start = ⊥
IsOwn (fault.OpenPush i square d) = ⊥
IsOwn fault.Memory = ⊥

-- without a fault: the entries are fine, and the roll has their states; otherwise: the first fault of a single entry
abbrev pub TellsEntries : BoardView → Claim → List Entry → Rolled → Option CertFault → Type 0
TellsEntries b claim entries roll None = AreEntered b claim entries roll
TellsEntries b claim entries roll (Some f) = IsOwn f × IsRefused b claim entries f

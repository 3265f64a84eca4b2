-- What the checker finds of one entry: whether it is a position, and whether its reason holds.
use Rattle.std.specs.Prelude.{ℕ, ◌≡◌, Option, Some, None, false, IsTrue, length}
use Rattle.sok_rules.specs.Play.{AllOnGoals}
use Rattle.sok_board.specs.Area.{BoardView, boxes_of}
use Rattle.sok_closed.specs.Placing as placing
use Rattle.sok_closed.specs.declared.placing.Located.{Located}
use Rattle.sok_entry.specs.declared.claim.Claim.{Claim}
use Rattle.sok_entry.specs.declared.entry.Entry.{Entry}
use Rattle.sok_entry.specs.declared.fault.CertFault.{CertFault}
use Rattle.sok_entry.specs.declared.fault.CertFault.TheVariants.{BadReason, SolvedEntry}
use Rattle.sok_cert.specs.declared.judging.Finding.{Finding}
use Rattle.sok_cert.specs.declared.judging.Finding.TheVariants.{Fine, Solved, Unreasoned}
use Rattle.sok_cert.specs.Closed.{IsBarredBy, IsReasoned, is_expanded, node_of, entry_position}

-- the entry is a position; these are its boxes and its state
abbrev pub IsLocated : BoardView → Entry → Located → Type 0
IsLocated b e found = placing.IsLocated b (length (boxes_of b)) (node_of e) found

-- The entry is fine; or it is expanded, with all boxes on goals; or it has another reason, which does not bar it.
abbrev pub IsFinding : BoardView → Claim → Entry → Finding → Type 0
IsFinding b claim e Fine = IsReasoned b claim e
IsFinding b claim e Solved = IsTrue (is_expanded e.reason) × AllOnGoals b.rows (entry_position b e)
IsFinding b claim e Unreasoned = (is_expanded e.reason ≡ false) × (IsBarredBy b claim e → ⊥)

-- the fault of the entry at an index that a finding means, if any
abbrev pub fault_of : Finding → ℕ → Option CertFault
fault_of Fine index = None
fault_of Solved index = Some (SolvedEntry index)
fault_of Unreasoned index = Some (BadReason index)

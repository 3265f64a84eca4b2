-- A closed list of entries shows its claim.
use Rattle.std.proofs.Common.{◌≡◌, false, List, length}
use Rattle.std.proofs.lemmas.List.Elements.{All-contains}
use Rattle.sok_rules.specs.Play.{start}
use Rattle.sok_rules.proofs.Man.{IsStanding-start}
use Rattle.sok_board.specs.Area.{BoardView, IsAccepted, boxes_of}
use Rattle.sok_closed.proofs.RollLaws.{AreBarred, roll-agrees}
use Rattle.sok_entry.specs.declared.claim.Claim.{Claim}
use Rattle.sok_entry.specs.declared.entry.Entry.{Entry}
use Rattle.sok_cert.specs.Closed.{IsBarredBy, IsClosed, IsPosition, ShowsClaims, is_expanded, node_of}
use Rattle.sok_cert.proofs.Barring.{Agrees, Agrees-barred, Agrees-deeper, Agrees-more, IsBarred-entry, IsTrueOf-agrees}

-- an entry that is not expanded bars
entries-barred : (b : BoardView) → IsAccepted b → (claim : Claim) (entries : List Entry) → IsClosed b claim entries → AreBarred node_of b entries (Agrees claim)
entries-barred b accepted claim entries closed e listed other x same w solves =
    let position : IsPosition b e = All-contains (IsPosition b) entries e closed.rolled.positions listed in
    let bars = All-contains (λ f. is_expanded f.reason ≡ false → IsBarredBy b claim f) entries e closed.barred listed other in
    Agrees-barred b claim e.depth e.player e.boxes (IsBarred-entry b accepted claim e position bars) x same w solves

-- the theorem
pub ShowsClaims-accepted : (b : BoardView) → IsAccepted b → ShowsClaims b
ShowsClaims-accepted b accepted claim entries closed =
    IsTrueOf-agrees b.rows claim
    (roll-agrees node_of b (length (boxes_of b)) (start b.rows) entries closed.rolled (Agrees claim) (Agrees-more claim) (Agrees-deeper claim)
    (entries-barred b accepted claim entries closed) (IsStanding-start b.rows accepted.proper))

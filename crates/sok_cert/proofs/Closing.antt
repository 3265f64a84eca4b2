-- A list with a fault is not closed.
use Rattle.std.proofs.Common.{◌≡◌, refl, sym, ap, List, Bool, true, false, true≢false, MatchBool, arith}
use Rattle.std.proofs.Common.{Result, Ok, Err, IfOk, IfErr, IsOk, ◌↔◌}
use Rattle.sok_rules.specs.Play.{AllOnGoals}
use Rattle.sok_board.specs.Area.{BoardView}
use Rattle.sok_board.proofs.Lists.{All-at}
use Rattle.sok_closed.specs.Rolls.{IsClosedAt}
use Rattle.sok_closed.proofs.Fine.{chosen}
use Rattle.sok_closed.proofs.Followed.{followed-closed}
use Rattle.sok_entry.specs.declared.claim.Claim.{Claim}
use Rattle.sok_entry.specs.declared.entry.Entry.{Entry}
use Rattle.sok_entry.specs.declared.fault.CertFault.{CertFault}
use Rattle.sok_entry.specs.declared.fault.CertFault.TheVariants as fault
use Rattle.sok_cert.specs.Closed.{IsBarredBy, IsClosed, IsPosition, IsReasoned, is_expanded, node_of, entry_position}
use Rattle.sok_cert.specs.Refusals.{IsRefused}

-- what an entry is reasoned by, where it is known whether it is expanded
pub reason-is : (b : BoardView) (claim : Claim) (e : Entry) (expanded : Bool) → is_expanded e.reason ≡ expanded → IsReasoned b claim e
    → MatchBool expanded (AllOnGoals b.rows (entry_position b e) → ⊥) (IsBarredBy b claim e)
reason-is b claim e expanded is reasoned = chosen (AllOnGoals b.rows (entry_position b e) → ⊥) (IsBarredBy b claim e) (is_expanded e.reason) expanded is reasoned

-- a closed list is refused for want of memory alone
pub closed-refused : (b : BoardView) (claim : Claim) (entries : List Entry) → IsClosed b claim entries → (f : CertFault) → IsRefused b claim entries f
    → f ≡ fault.Memory
closed-refused b claim entries closed (fault.BadEntry i) faulty = absurd (faulty.fault (All-at (IsPosition b) entries closed.rolled.positions i faulty.entry faulty.there))
closed-refused b claim entries closed (fault.Duplicate i) faulty =
    let repeated = faulty.fault in
    let same = closed.rolled.apart repeated.place i repeated.earlier faulty.entry repeated.there faulty.there repeated.same in
    let before = repeated.before in
    absurd (omega (arith, same, before))
closed-refused b claim entries closed (fault.SolvedEntry i) faulty =
    absurd (All-at (λ e. is_expanded e.reason ≡ true → AllOnGoals b.rows (entry_position b e) → ⊥) entries closed.rolled.unsolved i faulty.entry faulty.there
    faulty.fault.expanded faulty.fault.solved)
closed-refused b claim entries closed (fault.BadReason i) faulty =
    absurd (faulty.fault.fails
    (All-at (λ e. is_expanded e.reason ≡ false → IsBarredBy b claim e) entries closed.barred i faulty.entry faulty.there faulty.fault.barring))
closed-refused b claim entries closed fault.Start (fine, none) = absurd (none closed.rolled.starter.0 closed.rolled.starter.1)
closed-refused b claim entries closed (fault.OpenPush i square d) (fine, starter, first) =
    absurd (followed-closed node_of b entries first.entry (record { from = square; dir = d })
    (All-at (IsClosedAt node_of b entries) entries closed.rolled.followed i first.entry first.there) first.is_open)
closed-refused b claim entries closed fault.Header none = absurd none
closed-refused b claim entries closed (fault.Line n) none = absurd none
closed-refused b claim entries closed fault.Truncated none = absurd none
closed-refused b claim entries closed fault.Memory none = refl

-- an answer that names the first fault, or tells that the list is closed, tells exactly whether it is
pub judged-exactly : {T : Type 0} (b : BoardView) (claim : Claim) (entries : List Entry) (r : Result T CertFault) → IfOk r (λ _. IsClosed b claim entries)
    → IfErr r (IsRefused b claim entries)
    → (r ≡ Err fault.Memory → ⊥) → IsOk r ↔ IsClosed b claim entries
judged-exactly b claim entries (Ok x) closed refused other = (λ _. closed, λ _. refl)
judged-exactly b claim entries (Err f) closed refused other =
    (λ e. absurd (true≢false (sym e)), λ is. absurd (other (ap Err (closed-refused b claim entries is f refused))))

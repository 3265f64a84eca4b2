-- Why a list of entries is not closed: the first fault of a single entry, in order of the list, or else the first fault of the list as a whole.
use Rattle.std.specs.Prelude.{ℕ, ◌≡◌, ◌<◌, List, Some, false, IsTrue, length, slice_get}
use Rattle.sok_rules.specs.Play.{AllOnGoals}
use Rattle.sok_rules.specs.States.{Same}
use Rattle.sok_board.specs.Area.{BoardView, boxes_of}
use Rattle.sok_state.specs.declared.push.Push.{Push}
use Rattle.sok_closed.specs.Fine as fine
use Rattle.sok_closed.specs.Lookup as lookup
use Rattle.sok_entry.specs.declared.claim.Claim.{Claim}
use Rattle.sok_entry.specs.declared.entry.Entry.{Entry}
use Rattle.sok_entry.specs.declared.fault.CertFault.{CertFault}
use Rattle.sok_entry.specs.declared.fault.CertFault.TheVariants as fault
use Rattle.sok_cert.specs.Closed.{IsPosition, IsBarredBy, IsStarter, is_expanded, node_of, entry_position}

-- no earlier entry has the same state
abbrev pub IsNew : BoardView → List Entry → ℕ → Entry → Type 0
IsNew b entries i e = fine.IsNew node_of b entries i e

-- an entry without a fault of its own
abbrev pub IsFine : BoardView → Claim → List Entry → ℕ → Entry → Type 0
IsFine b claim entries i e = fine.IsFine node_of b (length (boxes_of b)) (IsBarredBy b claim) entries i e

-- all entries before a place are fine
abbrev pub AreFine : BoardView → Claim → List Entry → ℕ → Type 0
AreFine b claim entries n = fine.AreFine node_of b (length (boxes_of b)) (IsBarredBy b claim) entries n

-- the entry at a place has a fault of its own, and all entries before it are fine
pub record IsFaulty (b : BoardView) (claim : Claim) (entries : List Entry) (i : ℕ) (Fault : Entry → Type 0) : Type 0 where
  pub entry : Entry
  pub there : slice_get entries i ≡ Some entry
  pub before : AreFine b claim entries i
  pub fault : Fault entry

-- an earlier entry has the same state
pub record IsRepeated (b : BoardView) (entries : List Entry) (i : ℕ) (e : Entry) : Type 0 where
  pub position : IsPosition b e
  pub place : ℕ
  pub earlier : Entry
  pub before : place < i
  pub there : slice_get entries place ≡ Some earlier
  pub same : Same b.rows (entry_position b earlier) (entry_position b e)

-- the entry is expanded, with all boxes on goals
pub record IsSolved (b : BoardView) (entries : List Entry) (i : ℕ) (e : Entry) : Type 0 where
  pub position : IsPosition b e
  pub new : IsNew b entries i e
  pub expanded : IsTrue (is_expanded e.reason)
  pub solved : AllOnGoals b.rows (entry_position b e)

-- the entry is not expanded, and its reason does not bar it
pub record IsUnreasoned (b : BoardView) (claim : Claim) (entries : List Entry) (i : ℕ) (e : Entry) : Type 0 where
  pub position : IsPosition b e
  pub new : IsNew b entries i e
  pub barring : is_expanded e.reason ≡ false
  pub fails : IsBarredBy b claim e → ⊥

-- a push from an expanded entry leads to no entry that is at most one deeper
abbrev pub IsOpen : BoardView → List Entry → Entry → Push → Type 0
IsOpen b entries e push = lookup.IsOpen node_of b entries e push

-- the first such push
abbrev pub IsFirstOpen : BoardView → List Entry → ℕ → Push → Type 0
IsFirstOpen b entries i push = lookup.IsFirstOpen node_of b entries i push

-- the cause of the fault holds, and no earlier cause does
abbrev pub IsRefused : BoardView → Claim → List Entry → CertFault → Type 0
IsRefused b claim entries (fault.BadEntry i) = IsFaulty b claim entries i (λ e. IsPosition b e → ⊥)
IsRefused b claim entries (fault.Duplicate i) = IsFaulty b claim entries i (IsRepeated b entries i)
IsRefused b claim entries (fault.SolvedEntry i) = IsFaulty b claim entries i (IsSolved b entries i)
IsRefused b claim entries (fault.BadReason i) = IsFaulty b claim entries i (IsUnreasoned b claim entries i)
IsRefused b claim entries fault.Start = AreFine b claim entries (length entries) × ((e : Entry) → IsStarter b entries e → ⊥)
IsRefused b claim entries (fault.OpenPush i square d) =
    AreFine b claim entries (length entries) × ((e : Entry) × IsStarter b entries e) × IsFirstOpen b entries i (record { from = square; dir = d })
IsRefused b claim entries fault.Header = ⊥
IsRefused b claim entries (fault.Line n) = ⊥
IsRefused b claim entries fault.Truncated = ⊥
IsRefused b claim entries fault.Memory = Unit {0}

-- Closed certificates: each position is barred by a reason, or each legal push from it leads to another position of the certificate.
use Rattle.std.specs.Prelude.{ℕ, ◌-◌, List, Bool, true, false, IsSomeAnd, length}
use Rattle.sok_rules.specs.Squares.{Rows}
use Rattle.sok_rules.specs.Play.{Position, start, AtLeast, IsUnsolvable}
use Rattle.sok_board.specs.Area.{BoardView, boxes_of}
use Rattle.sok_closed.specs.Fine as fine
use Rattle.sok_closed.specs.Rolls as roll
use Rattle.sok_closed.specs.Rolls.{Node, node_position}
use Rattle.sok_bar.specs.declared.rest.Rest.{Rest}
use Rattle.sok_bar.specs.declared.rest.Rest.TheVariants as rest
use Rattle.sok_bar.specs.Bars.{Bars}
pub use Rattle.sok_bar.specs.Bars.{barring}
use Rattle.sok_entry.specs.declared.claim.Claim.{Claim}
use Rattle.sok_entry.specs.declared.claim.Claim.TheVariants.{Pushes, Unsolvable}
use Rattle.sok_entry.specs.declared.entry.Entry.{Entry}
use Rattle.sok_entry.specs.declared.entry.Reason.{Reason}
use Rattle.sok_entry.specs.declared.entry.Reason.TheVariants.{Expanded}

-- what a claim says of a level: no solution has fewer pushes; or there is no solution
abbrev pub IsTrueOf : Rows → Claim → Type 0
IsTrueOf rows (Pushes k) = AtLeast rows k
IsTrueOf rows Unsolvable = IsUnsolvable rows

-- what of the claim is still to be shown for a position at this depth
abbrev pub rest_of : Claim → ℕ → Rest
rest_of (Pushes k) depth = rest.AtLeast (k - depth)
rest_of Unsolvable depth = rest.Never

-- an entry is barred: its reason holds, and shows what is left of the claim at its depth
abbrev pub IsBarredBy : BoardView → Claim → Entry → Type 0
IsBarredBy b claim e = IsSomeAnd (barring e.reason) (λ reason. Bars b e.player e.boxes reason (rest_of claim e.depth))

abbrev pub is_expanded : Reason → Bool
is_expanded Expanded = true
is_expanded _ = false

-- an entry as a node of a list of states
abbrev pub node_of : Entry → Node
node_of e = record { depth = e.depth; player = e.player; boxes = e.boxes; expanded = is_expanded e.reason }

abbrev pub entry_position : BoardView → Entry → Position
entry_position b e = node_position b (node_of e)

-- the numbers of the entry are squares that make a position with as many boxes as the board has
abbrev pub IsPosition : BoardView → Entry → Type 0
IsPosition b e = roll.IsPosition b (length (boxes_of b)) (node_of e)

-- an entry of depth 0 whose state is the start
abbrev pub IsStarter : BoardView → List Entry → Entry → Type 0
IsStarter b entries e = roll.IsStarter node_of b (start b.rows) entries e

-- an expanded entry has a box off a goal; any other entry is barred by its reason
abbrev pub IsReasoned : BoardView → Claim → Entry → Type 0
IsReasoned b claim e = fine.IsReasoned node_of b (IsBarredBy b claim) e

-- The start is among the entries. Each push from an expanded entry leads to an entry, and each other entry is barred by its reason.
abbrev pub IsClosed : BoardView → Claim → List Entry → Type 0
IsClosed b claim entries = roll.IsClosed node_of b (length (boxes_of b)) (start b.rows) (IsBarredBy b claim) entries

-- each closed list shows its claim
abbrev pub ShowsClaims : BoardView → Type 0
ShowsClaims b = (claim : Claim) (entries : List Entry) → IsClosed b claim entries → IsTrueOf b.rows claim

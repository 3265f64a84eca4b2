-- The entry, or the first line of a pattern, that a letter and numbers spell.
use Rattle.std.specs.Prelude.{ℕ, ◌+◌, List, [], ◌∷◌, Option, Some, None, ◌==◌, codes, nat_lt, if◌then◌else◌, drop, length, option_and_then, option_map, slice_index, take}
use Rattle.sok_entry.specs.declared.entry.Entry.{Entry}
use Rattle.sok_entry.specs.declared.entry.Reason.{Reason}
use Rattle.sok_entry.specs.declared.entry.Reason.TheVariants.{Expanded, Spent, Bound, Crowd, Frozen}
use Rattle.sok_entry.specs.declared.head.Head.{Head}
use Rattle.sok_entry.specs.Text.{code}

-- a list of members, after their count
unfoldable pub members_of : List ℕ → Option (List ℕ)
members_of [] = None
members_of (count ∷ members) = if length members == count then Some members else None

-- a reason without numbers
abbrev pub bare : List ℕ → Reason → Option Reason
bare more reason = if length more == 0 then Some reason else None

-- the prices of this many boxes, then those of the goals
abbrev pub bound_of : ℕ → List ℕ → Option Reason
bound_of boxes more = if nat_lt (length more) boxes then None else Some (Bound (take boxes more) (drop boxes more))

-- the reason by its letter (x, s, b, c or f), for an entry with this many boxes
unfoldable pub reason_of : ℕ → ℕ → List ℕ → Option Reason
reason_of letter boxes more =
    if letter == code (codes "x") then bare more Expanded
    else if letter == code (codes "s") then bare more Spent
    else if letter == code (codes "b") then bound_of boxes more
    else if letter == code (codes "c") then option_map Crowd (members_of more)
    else if letter == code (codes "f") then option_map Frozen (members_of more)
    else None

-- the numbers of a position, and the numbers that follow them
pub record Front : Type 0 where
  pub depth : ℕ
  pub player : ℕ
  pub boxes : List ℕ
  pub more : List ℕ

-- depth, player, the number of boxes, and the boxes
unfoldable pub front_of : List ℕ → Option Front
front_of (depth ∷ player ∷ boxes ∷ more) =
    if nat_lt (length more) boxes then None else Some (record { depth = depth; player = player; boxes = take boxes more; more = drop boxes more })
front_of _ = None

-- the entry with this position, whose reason follows
abbrev pub entry_behind : ℕ → Front → Option Entry
entry_behind letter front =
    option_map (λ reason. record { depth = front.depth; player = front.player; boxes = front.boxes; reason = reason })
    (reason_of letter (length front.boxes) front.more)

unfoldable pub entry_of : ℕ → List ℕ → Option Entry
entry_of letter numbers = option_and_then (entry_behind letter) (front_of numbers)

-- the members, after their count, and the number of inner positions
unfoldable pub counts_of : List ℕ → Option (List ℕ × ℕ)
counts_of [] = None
counts_of (count ∷ more) = if length more == count + 1 then Some (take count more, slice_index more count) else None

-- the first line of a pattern with this position, whose members and number of inner positions follow
abbrev pub head_behind : Front → Option Head
head_behind front =
    option_map (λ (counts : List ℕ × ℕ). record { depth = front.depth; player = front.player; boxes = front.boxes; members = counts.0; count = counts.1 })
    (counts_of front.more)

unfoldable pub head_of : List ℕ → Option Head
head_of numbers = option_and_then head_behind (front_of numbers)

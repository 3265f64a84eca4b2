-- The invariant of the search: which states are known, how each was reached, and why its standing is right.
use Rattle.std.specs.Prelude.{ℕ, ◌≡◌, ◌<◌, ◌≤◌, ◌+◌, ◌⊎◌, false, true, Bool, List, Option, Some, None, IfSome, IsSomeAnd, Contains, length, slice_get, ⊤}
use Rattle.std.specs.Map.{values_of}
use Rattle.sok_rules.specs.declared.cell.Dir.{Dir}
use Rattle.sok_rules.specs.Play.{Position, AllOnGoals, AtLeastFrom, NeverFrom, SolvesFrom, pushes, start}
use Rattle.sok_rules.specs.States.{Same}
use Rattle.sok_board.specs.Area.{BoardView, position_of, boxes_of}
use Rattle.sok_price.specs.Matched.{TellsLeast}
use Rattle.sok_bar.specs.declared.rest.Rest.{Rest}
use Rattle.sok_bar.specs.Bars.{Barring, Bars, IsOfBoxes}
use Rattle.sok_state.specs.declared.key.Key.{Key}
use Rattle.sok_state.specs.declared.push.Push.{Push}
use Rattle.sok_state.specs.Keys.{IsKey, IsKeyOf, key_position}
use Rattle.sok_state.specs.Pushes.{IsLegal, LeadsTo}
use Rattle.sok_state.specs.Tables.{Entries, HasDistinctKeys, IsAt}
use Rattle.sok_closed.specs.Lookup.{IsFound}
use Rattle.sok_alone.specs.declared.losses.Losses.{Losses}
use Rattle.sok_alone.specs.Losses.{IsLostBy, KeepsLosses, KeepsPlaces, losses_of}
use Rattle.sok_search.specs.declared.aim.Aim.{Aim}
use Rattle.sok_search.specs.declared.note.Note.{Note}
use Rattle.sok_search.specs.declared.note.Origin.{Origin}
use Rattle.sok_search.specs.declared.note.Standing.{Standing}
use Rattle.sok_search.specs.declared.note.Standing.TheVariants.{Open, Expanded, Dead, Lost}
use Rattle.sok_search.specs.Limits.{state_limit}

-- what stays while states are added: the number of squares, what is asked for, and the losses that are known
pub record Frame : Type 0 where
  pub room : ℕ
  pub aim : Aim
  pub losses : Losses

-- the same, but more losses may be known
pub record IsLater (b : BoardView) (old new : Frame) : Type 0 where
  pub room : new.room ≡ old.room
  pub aim : new.aim ≡ old.aim
  pub kept : KeepsPlaces (losses_of old.losses) (losses_of new.losses)
  pub losses : KeepsLosses b old.losses → KeepsLosses b new.losses

-- the frame, the states with their depths, a note of each, the open list, and the fewest pushes of a known solution
pub record Progress : Type 0 where
  pub frame : Frame
  pub table : Entries
  pub notes : List Note
  pub queue : List ℕ
  pub best : Option ℕ

-- the state at an index, with its depth and note
pub record IsState (p : Progress) (i : ℕ) (key : Key) (depth : ℕ) (note : Note) : Type 0 where
  pub there : IsAt p.table key i
  pub depth_is : slice_get (values_of p.table) i ≡ Some depth
  pub note_is : slice_get p.notes i ≡ Some note

-- a push leads to the state from one that is less deep
pub record IsFrom (b : BoardView) (p : Progress) (key : Key) (depth : ℕ) (origin : Origin) : Type 0 where
  pub parent : Key
  pub there : IsAt p.table parent origin.parent
  pub deep : ℕ
  pub depth_is : slice_get (values_of p.table) origin.parent ≡ Some deep
  pub nearer : deep < depth
  pub after : Position
  pub leads : LeadsTo b parent origin.push after
  pub is : IsKeyOf b after key

-- it was reached by its origin, or it is the start
abbrev pub IsCome : BoardView → Progress → Key → ℕ → Option Origin → Type 0
IsCome b p key depth None = IsKeyOf b (start b.rows) key
IsCome b p key depth (Some origin) = IsFrom b p key depth origin

abbrev pub IsSolved : BoardView → Key → Type 0
IsSolved b key = AllOnGoals b.rows (position_of b key.least key.boxes)

-- from no position of a state do fewer pushes solve
abbrev pub NeedsPushes : BoardView → ℕ → List ℕ → ℕ → Type 0
NeedsPushes b player boxes n = (x : Position) → Same b.rows (position_of b player boxes) x → AtLeastFrom b.rows x n

-- the cost of an assignment of boxes to goals, as dual prices show
abbrev pub HasPrice : BoardView → List ℕ → ℕ → Type 0
HasPrice b boxes n = TellsLeast b boxes (Some n)

-- a lower bound of the pushes from a state, no less than the cost of an assignment; it is this cost if every state is kept
pub record HasBound (b : BoardView) (whole : Bool) (player : ℕ) (boxes : List ℕ) (n : ℕ) : Type 0 where
  pub cost : ℕ
  pub price : HasPrice b boxes cost
  pub no_less : cost ≤ n
  pub is_price : whole ≡ true → n ≡ cost
  pub needs : NeedsPushes b player boxes n

-- a deadlock, wherever the player stands: a reason bars these boxes, whatever is claimed
abbrev pub IsDead : BoardView → List ℕ → Type 0
IsDead b boxes = (why : Barring) × IsOfBoxes why × ((player : ℕ) (rest : Rest) → Bars b player boxes why rest)

-- a solution with at most so many pushes is known
abbrev pub IsBeaten : Option ℕ → ℕ → Type 0
IsBeaten best n = IsSomeAnd best (λ k. k ≤ n)

-- a push leads to a deadlock
abbrev pub LeadsNowhere : BoardView → Key → Push → Type 0
LeadsNowhere b key push = (after : Position) → LeadsTo b key push after → NeverFrom b.rows after

-- a solution through the state that a push leads to has no fewer pushes than the known solution
abbrev pub LeadsToNoFewer : BoardView → Option ℕ → Key → ℕ → Push → Type 0
LeadsToNoFewer b upper key depth push =
    (after : Position) → LeadsTo b key push after → (w : List Dir) → SolvesFrom b.rows after w → IsBeaten upper (depth + 1 + pushes b.rows after w)

-- by its standing and its depth, a solution through a state has no fewer pushes than the known solution
abbrev pub IsSpared : Option ℕ → Standing → ℕ → Type 0
IsSpared upper (Open bound) depth = IsBeaten upper (depth + bound)
IsSpared upper Dead depth = ⊤
IsSpared upper standing depth = ⊥

-- a push may be left out, since not every state is kept, and a solution through it has no fewer pushes than the known one
pub record IsLeftOut (b : BoardView) (aim : Aim) (key : Key) (depth : ℕ) (push : Push) : Type 0 where
  pub part : aim.whole ≡ false
  pub no_fewer : LeadsToNoFewer b aim.upper key depth push

-- a push is met: the state that it leads to is known, at most one deeper, or the push may be left out
abbrev pub IsMet : BoardView → Progress → Key → ℕ → Push → Type 0
IsMet b p key depth push = IsFound b p.table key depth push ⊎ IsLeftOut b p.frame.aim key depth push

-- a walk and a push that is among these, and then letters that solve the level, with no more pushes in all than these letters from the state
pub record BeginsAmong (b : BoardView) (key : Key) (chosen : List Push) (w : List Dir) : Type 0 where
  pub push : Push
  pub among : Contains chosen push
  pub after : Position
  pub leads : LeadsTo b key push after
  pub rest : List Dir
  pub solves : SolvesFrom b.rows after rest
  pub fewer : 1 + pushes b.rows after rest ≤ pushes b.rows (key_position b key) w

-- each solution from a state can be rearranged, with no more pushes, to begin with one of these pushes
abbrev pub MayBegin : BoardView → Key → List Push → Type 0
MayBegin b key chosen = (w : List Dir) → SolvesFrom b.rows (key_position b key) w → BeginsAmong b key chosen w

-- these pushes are all legal ones, or, if not every state is kept, enough of them
abbrev pub AreEnough : BoardView → Bool → Key → List Push → Type 0
AreEnough b whole key chosen = ((push : Push) → IsLegal b key push → Contains chosen push) ⊎ ((whole ≡ false) × MayBegin b key chosen)

-- enough pushes are met
abbrev pub IsFollowedUp : BoardView → Progress → Key → ℕ → Type 0
IsFollowedUp b p key depth =
    (chosen : List Push) × AreEnough b p.frame.aim.whole key chosen × ((push : Push) → Contains chosen push → IsMet b p key depth push)

-- why the standing of a state is right
abbrev pub Stands : BoardView → Progress → ℕ → Key → ℕ → Standing → Type 0
Stands b p i key depth (Open bound) = HasBound b p.frame.aim.whole key.least key.boxes bound × (Contains p.queue i ⊎ IsBeaten p.best (depth + bound))
Stands b p i key depth (Expanded bound) =
    HasBound b p.frame.aim.whole key.least key.boxes bound × (IsSolved b key → ⊥) × IsFollowedUp b p key depth
Stands b p i key depth Dead = IsDead b key.boxes
Stands b p i key depth (Lost place) = IsLostBy b key.least key.boxes (losses_of p.frame.losses) place

-- a state of the board, no deeper than its index, that was reached, and whose standing is right
pub record IsNoted (b : BoardView) (p : Progress) (i : ℕ) (key : Key) (depth : ℕ) (note : Note) : Type 0 where
  pub state : IsKey b key
  pub as_many : length key.boxes ≡ length (boxes_of b)
  pub shallow : depth ≤ i
  pub come : IsCome b p key depth note.origin
  pub stands : Stands b p i key depth note.standing

-- the start comes first, at depth 0
pub record IsBegun (b : BoardView) (p : Progress) : Type 0 where
  pub key : Key
  pub there : IsAt p.table key 0
  pub depth_is : slice_get (values_of p.table) 0 ≡ Some 0
  pub is : IsKeyOf b (start b.rows) key

-- a solved state at most so deep is known
pub record IsSolvedIn (b : BoardView) (p : Progress) (k : ℕ) : Type 0 where
  pub index : ℕ
  pub key : Key
  pub there : IsAt p.table key index
  pub depth : ℕ
  pub depth_is : slice_get (values_of p.table) index ≡ Some depth
  pub shallow : depth ≤ k
  pub solved : IsSolved b key

-- the same, or the solution that was known before has so many pushes
abbrev pub IsReached : BoardView → Progress → ℕ → Type 0
IsReached b p k = (p.frame.aim.upper ≡ Some k) ⊎ IsSolvedIn b p k

-- the invariant
pub record IsSearch (b : BoardView) (limit : ℕ) (p : Progress) : Type 0 where
  pub wide : length b.area ≤ p.frame.room
  pub losses : KeepsLosses b p.frame.losses
  pub distinct : HasDistinctKeys p.table
  pub a_note_each : length p.notes ≡ length p.table
  pub few : length p.table ≤ limit
  pub queued : (i : ℕ) → Contains p.queue i → i < length p.table
  pub begun : IsBegun b p
  pub noted : (i : ℕ) (key : Key) (depth : ℕ) (note : Note) → IsState p i key depth note → IsNoted b p i key depth note
  pub best : IfSome p.best (IsReached b p)
  pub upper : (n : ℕ) → IsBeaten p.frame.aim.upper n → IsBeaten p.best n

-- within some limit; and within one that a certificate allows
abbrev pub IsSearching : BoardView → Progress → Type 0
IsSearching b p = (limit : ℕ) × IsSearch b limit p

abbrev pub IsSmallSearch : BoardView → Progress → Type 0
IsSmallSearch b p = (limit : ℕ) × IsSearch b limit p × (limit ≤ state_limit)

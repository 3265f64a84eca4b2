-- What a step of the search does: it adds a state, lowers the depth of one, or follows a push.
use Rattle.std.specs.Prelude.{ℕ, ◌≡◌, ◌<◌, ◌≤◌, ◌+◌, ◌-◌, ◌*◌, ◌⊎◌, ◌↔◌, Bool, true, List, [], ◌∷◌, ◌++◌, Option, Some, MatchOption, Contains, length, slice_get, slice_set, sum_by}
use Rattle.std.specs.Map.{keys_of, values_of}
use Rattle.sok_board.specs.Area.{BoardView, beside}
use Rattle.sok_board.specs.BoxSets.{put_in_order}
use Rattle.sok_state.specs.declared.key.Key.{Key}
use Rattle.sok_state.specs.declared.push.Push.{Push}
use Rattle.sok_state.specs.Pushes.{IsKeyAfter, IsLegal}
use Rattle.sok_state.specs.Tables.{Entries, IsAt, IsNext}
use Rattle.sok_alone.specs.declared.losses.Loss.{Loss}
use Rattle.sok_alone.specs.declared.losses.Losses.{Losses}
use Rattle.sok_alone.specs.Losses.{IsLostBy, losses_of}
use Rattle.sok_lift.specs.Lifts.{HasLifts}
use Rattle.sok_lift.specs.Numbers.{LiftTable, lift_in}
use Rattle.sok_search.specs.declared.note.Note.{Note}
use Rattle.sok_search.specs.declared.note.Origin.{Origin}
use Rattle.sok_search.specs.declared.note.Standing.{Standing}
use Rattle.sok_search.specs.declared.note.Standing.TheVariants.{Open, Expanded, Dead, Lost}
use Rattle.sok_search.specs.declared.step.Step.{Step}
use Rattle.sok_search.specs.PushScratches.{AreMoved}
use Rattle.sok_search.specs.Searches.{Frame, Progress, HasBound, HasPrice, IsDead, IsMet, IsSearch, IsState}

-- each state keeps its place, and its depth does not grow
pub record Grows (old new : Entries) : Type 0 where
  pub keys : (key : Key) (i : ℕ) → IsAt old key i → IsAt new key i
  pub depths : (i depth : ℕ) → slice_get (values_of old) i ≡ Some depth → (deep : ℕ) × (slice_get (values_of new) i ≡ Some deep) × (deep ≤ depth)

-- the same indices and one more, in any order
pub record HasOneMore (fewer : List ℕ) (index : ℕ) (more : List ℕ) : Type 0 where
  pub longer : length more ≡ length fewer + 1
  pub exact : (i : ℕ) → Contains more i ↔ ((i ≡ index) ⊎ Contains fewer i)

-- an index is removed from a list, or the list is empty
abbrev pub TellsTaken : List ℕ → List ℕ → Option ℕ → Type 0
TellsTaken old new taken = MatchOption taken ((old ≡ []) × (new ≡ [])) (λ index. HasOneMore new index old)

-- a state is added to the open list if its standing is open
abbrev pub Queues : Standing → ℕ → List ℕ → List ℕ → Type 0
Queues (Open bound) index old new = HasOneMore old index new
Queues (Expanded bound) index old new = new ≡ old
Queues Dead index old new = new ≡ old
Queues (Lost place) index old new = new ≡ old

-- a state is added
pub record IsAdded (p : Progress) (key : Key) (depth : ℕ) (note : Note) (q : Progress) : Type 0 where
  pub frame : q.frame ≡ p.frame
  pub keys : keys_of q.table ≡ keys_of p.table ++ key ∷ []
  pub depths : values_of q.table ≡ values_of p.table ++ depth ∷ []
  pub notes : q.notes ≡ p.notes ++ note ∷ []
  pub queue : Queues note.standing (length p.table) p.queue q.queue
  pub best : q.best ≡ p.best

-- a state gets another depth and note
pub record IsChanged (p : Progress) (index depth : ℕ) (note : Note) (q : Progress) : Type 0 where
  pub frame : q.frame ≡ p.frame
  pub keys : keys_of q.table ≡ keys_of p.table
  pub depths : values_of q.table ≡ slice_set (values_of p.table) index depth
  pub notes : q.notes ≡ slice_set p.notes index note
  pub queue : Queues note.standing index p.queue q.queue
  pub best : q.best ≡ p.best

-- the state that was inserted last gets a note
pub record IsListed (p : Progress) (index : ℕ) (note : Note) (q : Progress) : Type 0 where
  pub frame : q.frame ≡ p.frame
  pub table : q.table ≡ p.table
  pub notes : q.notes ≡ p.notes ++ note ∷ []
  pub queue : Queues note.standing index p.queue q.queue
  pub best : q.best ≡ p.best

-- an expanded state is reopened
abbrev pub reopened : Standing → Standing
reopened (Open bound) = Open bound
reopened (Expanded bound) = Open bound
reopened Dead = Dead
reopened (Lost place) = Lost place

-- a known state is reached again, at a smaller depth
pub record ComesNearer (p : Progress) (index depth : ℕ) (origin : Option Origin) (q : Progress) : Type 0 where
  pub old : ℕ
  pub depth_is : slice_get (values_of p.table) index ≡ Some old
  pub was : Note
  pub note_is : slice_get p.notes index ≡ Some was
  pub nearer : depth < old
  pub changed : IsChanged p index depth (record { origin = origin; standing = reopened was.standing }) q

-- a known state is reached again, at a depth that is no smaller
pub record StaysNear (p : Progress) (index depth : ℕ) (q : Progress) : Type 0 where
  pub old : ℕ
  pub depth_is : slice_get (values_of p.table) index ≡ Some old
  pub near : old ≤ depth
  pub same : q ≡ p

-- a known state is reached again
abbrev pub Nears : Progress → ℕ → ℕ → Option Origin → Progress → Type 0
Nears p index depth origin q = StaysNear p index depth q ⊎ ComesNearer p index depth origin q

-- with other losses known
abbrev pub knowing : Losses → Progress → Progress
knowing losses p = record p { frame = record { room = p.frame.room; aim = p.frame.aim; losses = losses } }

-- with an index back in the open list that was removed from it and is still being visited
abbrev pub holding : ℕ → Progress → Progress
holding index p = record p { queue = index ∷ p.queue }

-- after the visit: a note may be another, and the best may be better
abbrev pub done : Progress → List Note → Option ℕ → Progress
done p notes best = record { frame = p.frame; table = p.table; notes = notes; queue = p.queue; best = best }

-- the standing of a new state, given by player and boxes, is right by the known losses, and its bound, if it is open, is such a number
abbrev pub IsJudged : (ℕ → Type 0) → BoardView → List Loss → ℕ → List ℕ → Standing → Type 0
IsJudged Bounds b losses player boxes (Open bound) = Bounds bound
IsJudged Bounds b losses player boxes (Expanded bound) = ⊥
IsJudged Bounds b losses player boxes Dead = IsDead b boxes
IsJudged Bounds b losses player boxes (Lost place) = IsLostBy b player boxes losses place

-- and its bound is the cost of an assignment
abbrev pub IsPriced : BoardView → List Loss → ℕ → List ℕ → Standing → Type 0
IsPriced b losses player boxes = IsJudged (HasPrice b boxes) b losses player boxes

-- and its bound is one of the state, by which every state is kept or not
abbrev pub IsBoundedAs : BoardView → Bool → List Loss → ℕ → List ℕ → Standing → Type 0
IsBoundedAs b whole losses player boxes = IsJudged (HasBound b whole player boxes) b losses player boxes

-- the same, in a search with this frame
abbrev pub IsJudgedIn : BoardView → Frame → Key → Standing → Type 0
IsJudgedIn b frame key standing = IsBoundedAs b frame.aim.whole (losses_of frame.losses) key.least key.boxes standing

-- a bound is raised by lifts of pairs of the boxes, unless every state is kept
pub record IsRaisedTo (t : LiftTable) (whole : Bool) (player : ℕ) (boxes : List ℕ) (old new : ℕ) : Type 0 where
  pub more : ℕ
  pub lifts : HasLifts (lift_in t) player boxes more
  pub no_less : old ≤ new
  pub no_more : new ≤ old + more
  pub same : whole ≡ true → new ≡ old

-- so it is of an open state, and no other standing changes
abbrev pub IsRaised : LiftTable → Bool → ℕ → List ℕ → Standing → Standing → Type 0
IsRaised t whole player boxes (Open bound) new = (n : ℕ) × (new ≡ Open n) × IsRaisedTo t whole player boxes bound n
IsRaised t whole player boxes old new = new ≡ old

-- the work that remains, by which the search ends: room in the table, depths that can be lowered, the open list
abbrev pub work : ℕ → Progress → ℕ
work limit p = (limit - length p.table) * (2 * limit + 2) + (2 * sum_by (λ depth. depth) (values_of p.table) + length p.queue)

-- a push of a state is legal, moves its box to this square, and leaves the player where this square is the least that he reaches
pub record IsStep (b : BoardView) (key : Key) (step : Step) : Type 0 where
  pub legal : IsLegal b key step.push
  pub ahead : beside b step.push.from step.push.dir ≡ Some step.to
  pub moved : AreMoved b key.boxes step.push.from step.to (put_in_order step.push.from step.to key.boxes)
  pub next : (next : Key) → IsNext key step.push.from step.to step.least next → IsKeyAfter b key step.push next

-- a push was followed: the invariant holds, states that are no deeper stay as they were, the push is met, and no work was added
pub record IsPushed (b : BoardView) (limit : ℕ) (p : Progress) (key : Key) (depth : ℕ) (push : Push) (q : Progress) : Type 0 where
  pub search : IsSearch b limit q
  pub aim : q.frame.aim ≡ p.frame.aim
  pub grows : Grows p.table q.table
  pub stay : (i : ℕ) (other : Key) (deep : ℕ) (note : Note) → deep ≤ depth → IsState p i other deep note → IsState q i other deep note
  pub met : IsMet b q key depth push
  pub no_more : work limit q ≤ work limit p

-- The way from the start to a state: its pushes, and letters that make them.
use Rattle.std.specs.Prelude.{ℕ, ◌≡◌, ◌<◌, ◌≤◌, ◌+◌, ◌++◌, ◌∷◌, List, [], Some, true, length, slice_get, slice_index}
use Rattle.std.specs.Map.{values_of}
use Rattle.sok_rules.specs.declared.cell.Dir.{Dir}
use Rattle.sok_rules.specs.Play.{Position, Solves, pushes, run, start, step}
use Rattle.sok_rules.specs.States.{Same}
use Rattle.sok_board.specs.Area.{BoardView, position_of}
use Rattle.sok_state.specs.declared.key.Key.{Key}
use Rattle.sok_state.specs.declared.push.Push.{Push}
use Rattle.sok_state.specs.Keys.{IsKey, IsKeyOf}
use Rattle.sok_state.specs.Pushes.{LeadsTo}
use Rattle.sok_state.specs.Tables.{IsAt}
use Rattle.sok_search.specs.declared.note.Note.{Note}
use Rattle.sok_search.specs.declared.note.Origin.{Origin}
use Rattle.sok_search.specs.declared.walkthrough.Walkthrough.{Walkthrough}
use Rattle.sok_search.specs.Outcomes.{EndsWithPush}
use Rattle.sok_search.specs.Searches.{Progress, IsSearch, IsSolved}

-- a push leads from one state to another
pub record Leads (b : BoardView) (key : Key) (push : Push) (next : Key) : Type 0 where
  pub after : Position
  pub leads : LeadsTo b key push after
  pub is : IsKeyOf b after next

-- pushes, last one first, lead from one state to another
abbrev pub LeadBy : BoardView → Key → List Push → Key → Type 0
LeadBy b key [] to = key ≡ to
LeadBy b key (last ∷ before) to = (from : Key) × LeadBy b key before from × Leads b from last to

-- they lead from the start to a state, and are at most so many
pub record IsTrace (b : BoardView) (to : Key) (n : ℕ) (trace : List Push) : Type 0 where
  pub from : Key
  pub is : IsKeyOf b (start b.rows) from
  pub lead : LeadBy b from trace to
  pub few : length trace ≤ n

-- the origin of each state is a state that is less deep
abbrev pub GoesBack : Progress → Type 0
GoesBack p =
    (i : ℕ) (note : Note) (origin : Origin) → slice_get p.notes i ≡ Some note → note.origin ≡ Some origin
    → (origin.parent < length p.notes) × (slice_index (values_of p.table) origin.parent < slice_index (values_of p.table) i)

-- these pushes lead to the state at an index
abbrev pub TracesBack : Progress → ℕ → List Push → Type 0
TracesBack p index trace =
    (b : BoardView) (limit : ℕ) (key : Key) (depth : ℕ) → IsSearch b limit p → IsAt p.table key index → slice_get (values_of p.table) index ≡ Some depth
    → IsTrace b key depth trace

-- the state at an index is solved, and at most so deep
pub record IsSolvedAt (b : BoardView) (p : Progress) (n index : ℕ) : Type 0 where
  pub key : Key
  pub there : IsAt p.table key index
  pub depth : ℕ
  pub depth_is : slice_get (values_of p.table) index ≡ Some depth
  pub shallow : depth ≤ n
  pub solved : IsSolved b key

-- letters from the start to a state, the last of which pushes
pub record IsWalkthrough (b : BoardView) (walkthrough : Walkthrough) : Type 0 where
  pub state : IsKey b walkthrough.key
  pub exists : walkthrough.player < length b.area
  pub same : Same b.rows (position_of b walkthrough.key.least walkthrough.key.boxes) (position_of b walkthrough.player walkthrough.key.boxes)
  pub leads : run b.rows (start b.rows) walkthrough.letters.items ≡ Some (position_of b walkthrough.player walkthrough.key.boxes)
  pub ends : EndsWithPush b.rows walkthrough.letters.items

abbrev pub pushes_of : BoardView → List Dir → ℕ
pushes_of b w = pushes b.rows (start b.rows) w

-- a walk and a push were appended to letters
pub record GoesOn (b : BoardView) (key : Key) (player : ℕ) (push : Push) (old new : List Dir) : Type 0 where
  pub before : Position
  pub walk : Same b.rows (position_of b player key.boxes) before
  pub after : Position
  pub steps : step b.rows push.dir before ≡ Some (record { position = after; pushed = true })
  pub leads : LeadsTo b key push after
  pub is : new ≡ old ++ (walk.0 ++ push.dir ∷ [])

-- pushes, last one first, lead from the start to a solved state
pub record IsSolvingTrace (b : BoardView) (trace : List Push) : Type 0 where
  pub from : Key
  pub is : IsKeyOf b (start b.rows) from
  pub to : Key
  pub lead : LeadBy b from trace to
  pub solved : IsSolved b to

-- letters solve with so many pushes, and the last one pushes
pub record IsSolvedWith (b : BoardView) (n : ℕ) (w : List Dir) : Type 0 where
  pub solves : Solves b.rows w
  pub counted : pushes_of b w ≡ n
  pub ends : EndsWithPush b.rows w

-- the start, with no letters
pub record IsAtStart (b : BoardView) (walkthrough : Walkthrough) : Type 0 where
  pub is : IsKeyOf b (start b.rows) walkthrough.key
  pub walkthrough_is : IsWalkthrough b walkthrough
  pub no_letters : walkthrough.letters.items ≡ []

-- a walkthrough with one more push
pub record FollowsPush (b : BoardView) (old : Walkthrough) (push : Push) (new : Walkthrough) : Type 0 where
  pub walkthrough : IsWalkthrough b new
  pub one_more : pushes_of b new.letters.items ≡ pushes_of b old.letters.items + 1
  pub leads : (after : Position) → LeadsTo b old.key push after → IsKeyOf b after new.key

-- letters solve with at most so many pushes, which are fewer than the states, and the last one pushes
pub record IsSolvedWithin (b : BoardView) (states most : ℕ) (w : List Dir) : Type 0 where
  pub n : ℕ
  pub solved : IsSolvedWith b n w
  pub near : n ≤ most
  pub small : n < states

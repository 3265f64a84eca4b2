-- What the steps of a search do.
use Rattle.std.specs.Prelude.{ℕ, ◌≡◌, ◌≤◌, ◌+◌, ◌++◌, List, All, Contains, length}
use Rattle.sok_board.specs.Area.{BoardView, position_of}
use Rattle.sok_state.specs.declared.key.Key.{Key}
use Rattle.sok_state.specs.declared.push.Push.{Push}
use Rattle.sok_state.specs.Tables.{Entries, IsAt, Tabled}
use Rattle.sok_closed.specs.Lookup.{AreFollowed, IsFound}
use Rattle.sok_entry.specs.declared.entry.Inner.{Inner}
use Rattle.sok_entry.specs.Text.{FitsInner}
use Rattle.sok_bar.specs.Patterns.{AreClosedAlone}
use Rattle.sok_alone.specs.declared.known.Known.{Known}
use Rattle.sok_alone.specs.declared.meeting.Met.{Met}
use Rattle.sok_alone.specs.declared.meeting.Met.TheVariants.{On, Ended}
use Rattle.sok_state.specs.Keys.{key_position}
use Rattle.sok_alone.specs.Known.{IsKnown, roll_of}
use Rattle.sok_alone.specs.GivenUp.{HasEnded}

-- known states are unchanged, and new ones follow them
pub record Grows (old new : Known) : Type 0 where
  pub entries : Entries
  pub entries_are : new.table.entries ≡ old.table.entries ++ entries
  pub inner : List Inner
  pub inner_are : new.inner.items ≡ old.inner.items ++ inner

-- the state is known afterwards
pub record IsMet (b : BoardView) (start : Key) (limit : ℕ) (old : Known) (key : Key) (new : Known) : Type 0 where
  pub known : IsKnown b start limit new
  pub grows : Grows old new
  pub place : ℕ
  pub there : IsAt new.table.entries key place

abbrev pub TellsMet : BoardView → Tabled → Key → ℕ → Known → Key → Known → Met → Type 0
TellsMet b lives start limit old key new On = IsMet b start limit old key new
TellsMet b lives start limit old key new Ended = HasEnded b lives (key_position b start) limit

-- the states that these pushes lead to are known afterwards
pub record HasFollowed (b : BoardView) (start : Key) (limit : ℕ) (old : Known) (key : Key) (pushes : List Push) (new : Known) : Type 0 where
  pub known : IsKnown b start limit new
  pub grows : Grows old new
  pub found : (push : Push) → Contains pushes push → IsFound b new.table.entries key 0 push

abbrev pub TellsFollowed : BoardView → Tabled → Key → ℕ → Known → Key → List Push → Known → Met → Type 0
TellsFollowed b lives start limit old key pushes new On = HasFollowed b start limit old key pushes new
TellsFollowed b lives start limit old key pushes new Ended = HasEnded b lives (key_position b start) limit

-- the invariant holds, and the pushes from the expanded states before a place lead to known states
pub record HasRun (b : BoardView) (start : Key) (limit : ℕ) (old : Known) (place : ℕ) (new : Known) : Type 0 where
  pub known : IsKnown b start limit new
  pub grows : Grows old new
  pub followed : AreFollowed b (roll_of new) place

abbrev pub TellsExpanded : BoardView → Tabled → Key → ℕ → Known → ℕ → Known → Met → Type 0
TellsExpanded b lives start limit old index new On = HasRun b start limit old (index + 1) new
TellsExpanded b lives start limit old index new Ended = HasEnded b lives (key_position b start) limit

-- the same of all known states
abbrev pub TellsAll : BoardView → Tabled → Key → ℕ → Known → Known → Met → Type 0
TellsAll b lives start limit old new On = HasRun b start limit old (length new.inner.items) new
TellsAll b lives start limit old new Ended = HasEnded b lives (key_position b start) limit

-- the end of a search: all pushes from expanded states lead to known states, and the first state is among them
pub record IsFinished (b : BoardView) (start : Key) (limit : ℕ) (first : Key) (new : Known) : Type 0 where
  pub known : IsKnown b start limit new
  pub followed : AreFollowed b (roll_of new) (length new.inner.items)
  pub place : ℕ
  pub there : IsAt new.table.entries first place

abbrev pub TellsRun : BoardView → Tabled → Key → ℕ → Key → Known → Met → Type 0
TellsRun b lives start limit first new On = IsFinished b start limit first new
TellsRun b lives start limit first new Ended = HasEnded b lives (key_position b start) limit

-- at most `limit` positions of some boxes alone, which are closed under pushes and have lines in a certificate
pub record AreClosedWithin (b : BoardView) (player : ℕ) (boxes : List ℕ) (limit : ℕ) (inner : List Inner) : Type 0 where
  pub closed : AreClosedAlone b player boxes inner
  pub few : length inner ≤ limit
  pub fit : All FitsInner inner

-- what a search from a position returns: the known positions are such a list, or it has ended without one
abbrev pub TellsAlone : BoardView → Tabled → ℕ → List ℕ → ℕ → List Inner → Met → Type 0
TellsAlone b lives player boxes limit inner On = AreClosedWithin b player boxes limit inner
TellsAlone b lives player boxes limit inner Ended = HasEnded b lives (position_of b player boxes) limit

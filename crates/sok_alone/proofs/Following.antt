-- The pushes of a state are followed.
use Rattle.std.proofs.Common.{ℕ, ◌≡◌, ◌<◌, ◌≤◌, ◌+◌, ◌∙◌, ap, sym, List, Bool, Some, Ok, Err, Result, IfOk, Contains, arith, get_or, length, map, slice_get}
use Rattle.std.proofs.lemmas.List.{get_or-map, length-map}
use Rattle.std.proofs.lemmas.Option.{slice_get-get_or}
use Rattle.sok_rules.specs.declared.fault.Memory.{Memory}
use Rattle.sok_rules.specs.Play.{Position}
use Rattle.sok_board.specs.Area.{BoardView}
use Rattle.sok_state.specs.declared.key.Key.{Key}
use Rattle.sok_state.specs.declared.push.Push.{Push}
use Rattle.sok_state.specs.Keys.{IsKeyOf}
use Rattle.sok_state.specs.Pushes.{IsLegal, LeadsTo}
use Rattle.sok_state.specs.Tables.{IsAt, Tabled}
use Rattle.sok_closed.specs.Lookup.{AreFollowed, IsFound}
use Rattle.sok_closed.proofs.Missed.{followed-more}
use Rattle.sok_entry.specs.declared.entry.Inner.{Inner}
use Rattle.sok_bar.specs.Patterns.{is_expanded}
use Rattle.sok_alone.specs.declared.known.Known.{Known}
use Rattle.sok_alone.specs.declared.meeting.Met.{Met}
use Rattle.sok_alone.specs.declared.meeting.Met.TheVariants.{On, Ended}
use Rattle.sok_alone.specs.Known.{IsKnown, roll_of}
use Rattle.sok_alone.specs.Meeting.{HasFollowed, HasRun, IsFinished, IsMet, TellsAll, TellsExpanded, TellsFollowed, TellsRun}
use Rattle.sok_alone.proofs.Growing.{at-grows, followed-grows}
use Rattle.sok_alone.proofs.Knowing.{as-many, within-at, zero-at}

-- what holds of each element before the end holds of each that is listed
pub found-listed : {X : Type 0} (xs : List X) (P : X → Type 0) (n : ℕ) → length xs ≤ n → ((i : ℕ) (x : X) → i < n → slice_get xs i ≡ Some x → P x)
    → (x : X) → Contains xs x → P x
found-listed xs P n past each x (k, within, is) = each k x (omega (arith, within, past)) (slice_get-get_or xs k x within ∙ ap Some is)

-- the mark at a place
pub marked-at : (known : Known) (index : ℕ) (one : Inner) → index < length known.inner.items → one ≡ get_or known.inner.items index one
    → slice_get (roll_of known).marks index ≡ Some (is_expanded one.reason)
marked-at known index one within is =
    let expanded : Inner → Bool = λ other. is_expanded other.reason in
    let mark = expanded one in
    let count = length-map known.inner.items expanded in
    slice_get-get_or (map expanded known.inner.items) index mark (omega (arith, within, count))
    ∙ ap Some (get_or-map expanded known.inner.items index one mark within ∙ ap expanded (sym is))

-- a push to a state that is known now is found
pub found-met : (b : BoardView) (start : Key) (limit : ℕ) (old new : Known) (key next : Key) (push : Push)
    → ((after : Position) → LeadsTo b key push after → IsKeyOf b after next) → IsMet b start limit old next new → IsFound b new.table.entries key 0 push
found-met b start limit old new key next push is met = record {
  next = next;
  is = is;
  index = met.place;
  there = met.there;
  deep = 0;
  depth_is = zero-at b start limit new met.known met.place next met.there;
  near = omega arith;
}

module _ (b : BoardView) (start : Key) (limit : ℕ) (old : Known) (known : IsKnown b start limit old) (index : ℕ) (key : Key)
    (there : IsAt old.table.entries key index) (before : AreFollowed b (roll_of old) index) (pushes : List Push)
    (whole : (push : Push) → IsLegal b key push → Contains pushes push) where
  -- the state is followed, where all its pushes are
  expanded-all : (new : Known) → HasFollowed b start limit old key pushes new → HasRun b start limit old (index + 1) new
  expanded-all new all =
      let within = within-at b start limit old known index key there in
      let count = as-many b start limit old known in
      let at = at-grows old new all.grows key index there in
      record {
        known = all.known;
        grows = all.grows;
        followed = followed-more b (roll_of new) index key 0 at (zero-at b start limit new all.known index key at)
            (λ push legal. all.found push (whole push legal))
            (followed-grows old new all.grows b index (omega (arith, within, count)) (omega (arith, within)) before);
      }

  pub tells-expanded : (lives : Tabled) (new : Known) (r : Result Met Memory) → IfOk r (TellsFollowed b lives start limit old key pushes new)
      → IfOk r (TellsExpanded b lives start limit old index new)
  tells-expanded lives new (Ok On) all = expanded-all new all
  tells-expanded lives new (Ok Ended) ended = ended
  tells-expanded lives new (Err fault) told = told

-- a first state was met, and then all were expanded
module _ (b : BoardView) (start : Key) (limit : ℕ) (old known : Known) (first : Key) (met : IsMet b start limit old first known) where
  finished : (new : Known) → HasRun b start limit known (length new.inner.items) new → IsFinished b start limit first new
  finished new all = record {
    known = all.known;
    followed = all.followed;
    place = met.place;
    there = at-grows known new all.grows first met.place met.there;
  }

  pub tells-run : (lives : Tabled) (new : Known) (r : Result Met Memory) → IfOk r (TellsAll b lives start limit known new)
      → IfOk r (TellsRun b lives start limit first new)
  tells-run lives new (Ok On) all = finished new all
  tells-run lives new (Ok Ended) ended = ended
  tells-run lives new (Err fault) told = told

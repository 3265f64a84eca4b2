-- What a finished search shows of the position from which it starts.
use Rattle.std.proofs.Common.{ℕ, ◌≡◌, ◌≤◌, inl, inr, refl, ap, sym, subst, List, [], Option, None, Some, Ok, Err, Result, IfNone, IfOk, All, arith, length}
use Rattle.std.proofs.lemmas.List.{length-map}
use Rattle.std.proofs.lemmas.List.Elements.{All-weaker}
use Rattle.sok_rules.specs.declared.fault.Memory.{Memory}
use Rattle.sok_rules.specs.Squares.{Rows}
use Rattle.sok_rules.specs.Play.{Position}
use Rattle.sok_rules.specs.States.{MoreStatesFrom, ReachedFrom, Same}
use Rattle.sok_rules.proofs.Reaching.{reached-on, reached-solves}
use Rattle.sok_rules.proofs.Walking.{Same-trans}
use Rattle.sok_board.specs.Area.{BoardView, IsAccepted, position_of}
use Rattle.sok_board.specs.Limits.{box_limit}
use Rattle.sok_region.specs.Regions.{IsPlaced}
use Rattle.sok_state.specs.declared.key.Key.{Key}
use Rattle.sok_state.specs.Keys.{IsKeyOf, key_position}
use Rattle.sok_state.specs.Tables.{Entries, Tabled}
use Rattle.sok_state.proofs.Placed.{IsStanding-placed}
use Rattle.sok_closed.specs.Lookup.{AreFollowed}
use Rattle.sok_closed.specs.Rolls.{IsClosed, IsPosition}
use Rattle.sok_closed.proofs.Fine.{IsLooking-fine, missed-closed}
use Rattle.sok_closed.proofs.Starting.{at-within, one-starts}
use Rattle.sok_entry.specs.Text.{FitsInner}
use Rattle.sok_entry.specs.declared.entry.Inner.{Inner}
use Rattle.sok_bar.specs.Patterns.{AreClosedAlone, IsBarredAlone, inner_node, is_expanded}
use Rattle.sok_alone.specs.declared.known.Known.{Known}
use Rattle.sok_alone.specs.declared.meeting.Met.{Met}
use Rattle.sok_alone.specs.declared.meeting.Met.TheVariants.{On, Ended}
use Rattle.sok_alone.specs.Known.{IsCome, roll_of}
use Rattle.sok_alone.specs.Meeting.{AreClosedWithin, IsFinished, TellsAlone, TellsRun}
use Rattle.sok_alone.specs.GivenUp.{AreGivenUp, IsGivenUp}
use Rattle.sok_alone.proofs.Knowing.{zero-at}

-- what is given up from a position is given up from where letters lead to it
more-reached : (rows : Rows) (x y : Position) (limit : ℕ) → ReachedFrom rows x y → MoreStatesFrom rows y limit → MoreStatesFrom rows x limit
more-reached rows x y limit on more = record {
  positions = more.positions;
  many = more.many;
  reached = All-weaker (ReachedFrom rows y) (ReachedFrom rows x) (λ z. reached-on rows x y z on) more.positions more.reached;
  apart = more.apart;
}

pub given-up-reached : (rows : Rows) (x y : Position) (limit : ℕ) → ReachedFrom rows x y → IsGivenUp rows y limit → IsGivenUp rows x limit
given-up-reached rows x y limit on (inl (w, solves)) = inl (reached-solves rows x y on w solves)
given-up-reached rows x y limit on (inr more) = inr (more-reached rows x y limit on more)

pub given-up-walked : (rows : Rows) (x y : Position) (limit : ℕ) → Same rows x y → IsGivenUp rows y limit → IsGivenUp rows x limit
given-up-walked rows x y limit walk = given-up-reached rows x y limit (walk.0, walk.1)

-- a search that stops at no state
pub none-live : (b : BoardView) (lives : Tabled) (limit : ℕ) → lives.entries ≡ [] → AreGivenUp b lives limit
none-live b lives limit none = record {
  each = λ key live.
      let within = at-within lives.entries key live.index live.there in
      let long = ap (λ (entries : Entries). length entries) none in
      absurd (omega (arith, within, long));
}

-- what no result shows
pub none-ended : {X : Type 0} (r : Result (Option X) Memory) (P Q : Type 0) → (Q → P) → IfOk r (λ found. IfNone found Q) → IfOk r (λ found. IfNone found P)
none-ended (Ok None) P Q on told = on told
none-ended (Ok (Some found)) P Q on told = told
none-ended (Err fault) P Q on told = told

-- a list that is closed from a state is so from each position of it
pub closed-walked : (b : BoardView) (player : ℕ) (boxes : List ℕ) (key : Key) (limit : ℕ) → key.boxes ≡ boxes → IsKeyOf b (position_of b player boxes) key
    → (inner : List Inner) → AreClosedWithin b key.least key.boxes limit inner → AreClosedWithin b player boxes limit inner
closed-walked b player boxes key limit are is inner within =
    let rolled = within.closed.rolled in
    let (e, first) = rolled.starter in
    record {
      closed = record {
        rolled = record {
          positions = subst (λ (list : List ℕ). All (λ one. IsPosition b (length list) (inner_node one)) inner) are rolled.positions;
          apart = rolled.apart;
          unsolved = rolled.unsolved;
          starter = (
            e,
            record {
              listed = first.listed;
              first = first.first;
              same = Same-trans b.rows (position_of b player boxes) (key_position b key) _ is.same first.same;
            },
          );
          followed = rolled.followed;
        };
        barred = within.closed.barred;
      };
      few = within.few;
      fit = within.fit;
    }

-- the known states are a closed list
closed-finished : (b : BoardView) → IsAccepted b → (player : ℕ) (boxes : List ℕ) (key : Key) (limit : ℕ) (known : Known) → IsPlaced b boxes player
    → key.boxes ≡ boxes → length key.boxes ≤ box_limit → IsKeyOf b (position_of b player boxes) key → IsFinished b key limit key known
    → AreClosedAlone b player boxes known.inner.items
closed-finished b accepted player boxes key limit known placed boxes_are few key_is finished =
    let from = position_of b player boxes in
    let count = length key.boxes in
    let inner = known.inner.items in
    let entries = known.table.entries in
    let roll = roll_of known in
    let entered = finished.known.entered in
    let looking = IsLooking-fine inner_node b count (IsBarredAlone b) inner roll accepted few entered in
    let starter = one-starts inner_node b count inner entries looking from (IsStanding-placed b accepted.numbered accepted.proper player boxes placed) key key_is
    finished.place 0 finished.there (zero-at b key limit known finished.known finished.place key finished.there) refl in
    let marks = length-map inner (λ (one : Inner). is_expanded one.reason) in
    let followed : AreFollowed b roll (length roll.marks) = subst (AreFollowed b roll) (sym marks) finished.followed in
    subst (λ n. IsClosed inner_node b n from (IsBarredAlone b) inner) (ap length boxes_are)
    ((missed-closed inner_node b count (IsBarredAlone b) from inner roll accepted few entered starter None followed).0 refl)

-- what a run from the key of a state tells of the position with that state
pub tells-alone : (b : BoardView) → IsAccepted b → (lives : Tabled) (player : ℕ) (boxes : List ℕ) (key : Key) (limit : ℕ) (known : Known) → IsPlaced b boxes player
    → key.boxes ≡ boxes → length key.boxes ≤ box_limit → IsKeyOf b (position_of b player boxes) key → (met : Met) → TellsRun b lives key limit key known met
    → TellsAlone b lives player boxes limit known.inner.items met
tells-alone b accepted lives player boxes key limit known placed boxes_are few key_is On finished = record {
  closed = closed-finished b accepted player boxes key limit known placed boxes_are few key_is finished;
  few = finished.known.few;
  fit = All-weaker (IsCome b key) FitsInner (λ one come. come.fits) known.inner.items finished.known.come;
}
tells-alone b accepted lives player boxes key limit known placed boxes_are few key_is Ended ended =
    λ lives_are. given-up-walked b.rows (position_of b player boxes) (key_position b key) limit key_is.same (ended lives_are)

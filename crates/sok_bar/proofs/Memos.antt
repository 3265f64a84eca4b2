-- Kept lists: what is closed from one position of a state is closed from each.
use Rattle.std.proofs.Common.{ℕ, ◌≡◌, ◌↔◌, ap, subst, sym, List, length}
use Rattle.sok_rules.specs.Play.{Position}
use Rattle.sok_rules.specs.States.{Same}
use Rattle.sok_rules.proofs.Walking.{Same-sym, Same-trans}
use Rattle.sok_board.specs.Area.{BoardView, IsAccepted, position_of}
use Rattle.sok_region.specs.Regions.{IsPlaced}
use Rattle.sok_state.specs.declared.key.Key.{Key}
use Rattle.sok_state.specs.Keys.{IsKeyOf, key_position}
use Rattle.sok_state.proofs.Placed.{IsStanding-placed}
use Rattle.sok_closed.specs.Rolls.{IsClosed, Node, node_position}
use Rattle.sok_entry.specs.declared.entry.Inner.{Inner}
use Rattle.sok_bar.specs.Patterns.{AreClosedAlone, IsBarredAlone, inner_node}

-- a list that is closed from a position is closed from each from which a walk leads there
IsClosed-Same : {E : Type 0} (node : E → Node) (b : BoardView) (count : ℕ) (x y : Position) (IsBarred : E → Type 0) (entries : List E)
    → Same b.rows y x → IsClosed node b count x IsBarred entries → IsClosed node b count y IsBarred entries
IsClosed-Same node b count x y IsBarred entries same closed =
    let (e, starter) = closed.rolled.starter in
    record {
      rolled = record {
        positions = closed.rolled.positions;
        apart = closed.rolled.apart;
        unsolved = closed.rolled.unsolved;
        starter = (e, record { listed = starter.listed; first = starter.first; same = Same-trans b.rows y x (node_position b (node e)) same starter.same });
        followed = closed.rolled.followed;
      };
      barred = closed.barred;
    }

-- positions of boxes alone that are closed from one player of a state are closed from another
pub closed-from : (b : BoardView) (player other : ℕ) (boxes : List ℕ) (inner : List Inner) → Same b.rows (position_of b player boxes) (position_of b other boxes)
    → AreClosedAlone b other boxes inner → AreClosedAlone b player boxes inner
closed-from b player other boxes inner same closed =
    IsClosed-Same inner_node b (length boxes) (position_of b other boxes) (position_of b player boxes) (IsBarredAlone b) inner same closed

-- so it is with the square of its key
pub closed-by-key : (b : BoardView) → IsAccepted b → (player : ℕ) (boxes : List ℕ) (inner : List Inner) (key : Key) → IsPlaced b boxes player
    → IsKeyOf b (position_of b player boxes) key → key.boxes ≡ boxes → AreClosedAlone b player boxes inner ↔ AreClosedAlone b key.least key.boxes inner
closed-by-key b accepted player boxes inner key placed is boxes_are =
    let x = position_of b player boxes in
    let y = key_position b key in
    let here = IsStanding-placed b accepted.numbered accepted.proper player boxes placed in (
      λ closed. subst (λ n. IsClosed inner_node b n y (IsBarredAlone b) inner) (sym (ap length boxes_are))
          (IsClosed-Same inner_node b (length boxes) x y (IsBarredAlone b) inner (Same-sym b.rows x y here is.same) closed),
      λ closed. IsClosed-Same inner_node b (length boxes) y x (IsBarredAlone b) inner is.same
          (subst (λ n. IsClosed inner_node b n y (IsBarredAlone b) inner) (ap length boxes_are) closed),
    )

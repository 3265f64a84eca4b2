use Rattle.std.proofs.Common.{Bool, List, true, false, not, is_some, IsTrue, ap, length, subst, sym, true≢false, ◌≡◌, ◌∙◌, ◌↔◌}
use Rattle.sok_board.specs.Area.{position_of}
use Rattle.sok_closed.specs.Fine.{AreEntered}
use Rattle.sok_closed.specs.Rolls.{IsStarter}
use Rattle.sok_closed.proofs.Fine.{IsLooking-fine, missed-closed}
use Rattle.sok_closed.proofs.Missed.{rolled-starts}
use Rattle.sok_entry.specs.declared.entry.Inner.{Inner}
use Rattle.sok_state.proofs.Placed.{IsStanding-placed}
use Rattle.sok_bar.specs.Patterns.{AreClosedAlone, IsBarredAlone, inner_node}
use Rattle.sok_bar.proofs.alone.leads_on.Goals as goal
use Rattle.sok_bar.proofs.alone.leads_on.Goals.{After-starts}

turned : (t s : Bool) → t ≡ not s → s ≡ not t
turned t true is = ap not (sym is)
turned t false is = ap not (sym is)

-- the state stands at depth 0 exactly where one of the positions that were entered starts from it
starting : (c : After-starts) (inner : List Inner)
    → AreEntered inner_node c.args.board.now (length c.args.boxes.now) (IsBarredAlone c.args.board.now) inner c.args.roll.now
    → IsTrue c.starts.result ↔ ((e : Inner) × IsStarter inner_node c.args.board.now (position_of c.args.board.now c.args.player c.args.boxes.now) inner e)
starting c inner known =
    let b = c.args.board.now in
    let boxes = c.args.boxes.now in
    let looking = IsLooking-fine inner_node b (length boxes) (IsBarredAlone b) inner c.args.roll.now c.requires.accepted c.requires.few known in
    let standing = IsStanding-placed b c.requires.accepted.numbered c.requires.accepted.proper c.args.player boxes c.requires.placed in
    let starts = rolled-starts inner_node b (length boxes) inner c.args.roll.now looking (position_of b c.args.player boxes) standing c.in_ok-key.key
    c.in_ok-key.ensures.key in
    (λ yes. starts.0 (c.starts.ensures.0 yes), λ starter. c.starts.ensures.1 (starts.1 starter))

pub returns-then-not-starts : goal.returns-then-not-starts
returns-then-not-starts c = λ inner known. (
  λ wrong. absurd (true≢false (sym wrong)),
  λ closed.
      let starts = starting (goal.at.returns-then-not-starts c).After-starts inner known in
      absurd (true≢false (sym (starts.1 closed.rolled.starter) ∙ c.if-not-starts.true)),
)

pub returns : goal.returns
returns c = λ inner known.
    let b = c.args.board.now in
    let boxes = c.args.boxes.now in
    let starts = starting (goal.at.returns c).After-starts inner known in
    subst (λ none. IsTrue none ↔ AreClosedAlone b c.args.player boxes inner) (sym (turned (is_some c.in_ok-missed.missed) c.is_none.result c.is_none.ensures))
    (missed-closed inner_node b (length boxes) (IsBarredAlone b) (position_of b c.args.player boxes) inner c.args.roll.now c.requires.accepted c.requires.few known
    (starts.0 c.if-not-starts.false) c.in_ok-missed.missed c.in_ok-missed.ensures)

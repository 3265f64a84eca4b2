-- The boxes of the state that a push leads to are those before it with one moved.
use Rattle.std.proofs.Common.{ℕ, ◌≡◌, ◌≤◌, ◌∙◌, sym, ap, subst, Some, length}
use Rattle.sok_rules.specs.Play.{Position}
use Rattle.sok_rules.proofs.Walking.{boxes-Same}
use Rattle.sok_board.specs.Area.{BoardView, IsAccepted, beside, position_of}
use Rattle.sok_board.proofs.Beside.{beside-within}
use Rattle.sok_board.specs.BoxSets.{IsMoved, put_in_order}
use Rattle.sok_board.proofs.Moves.{IsMoved-put, IsBoxList-put}
use Rattle.sok_state.specs.declared.key.Key.{Key}
use Rattle.sok_state.specs.declared.push.Push.{Push}
use Rattle.sok_state.specs.Keys.{IsKey, IsKeyOf}
use Rattle.sok_state.specs.Pushes.{IsLegal, LeadsTo}
use Rattle.sok_state.proofs.LegalPushes.{IsPlaced-after, LeadsTo-position, clear-legal, clear_ahead}
use Rattle.sok_state.proofs.Placed.{same_boxes}
use Rattle.sok_search.specs.PushScratches.{AreMoved}

pub moved-next : (b : BoardView) → IsAccepted b → (key next : Key) (push : Push) (to : ℕ) → IsKey b key → length key.boxes ≤ 128 → IsKey b next
    → IsLegal b key push → ((after : Position) → LeadsTo b key push after → IsKeyOf b after next) → beside b push.from push.dir ≡ Some to
    → AreMoved b key.boxes push.from to next.boxes
moved-next b accepted key next push to state few next_state legal exact ahead =
    let placed = state.is.placed in
    let area = accepted.numbered in
    let (there, clear) = clear-legal b area key placed push legal in
    let free = clear_ahead b key push clear to ahead in
    let boxes = put_in_order push.from to key.boxes in
    let moves = IsMoved-put push.from to key.boxes in
    let (list, as_many) = IsBoxList-put push.from to key.boxes placed.rising few there free in
    let after = legal.after in
    let leads = legal.leads in
    let stands = LeadsTo-position b area key push to boxes after placed ahead moves leads in
    let next_placed = next_state.is.placed in
    let came = IsPlaced-after b area key placed push to boxes legal ahead moves list.rising in
    let kept = boxes-Same b.rows after (position_of b next.least next.boxes) (exact after leads).same in
    let same = same_boxes b area push.from next.least boxes next.boxes came next_placed (ap (λ (x : Position). x.boxes) stands ∙ sym kept) in
    record {
      exist = placed.boxes_exist;
      there = there;
      within = beside-within b push.dir push.from to ahead;
      free = free;
      moved = subst (IsMoved key.boxes push.from to) same moves;
      rising = next_placed.rising;
      after_exist = next_placed.boxes_exist;
    }

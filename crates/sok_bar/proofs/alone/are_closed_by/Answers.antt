use Rattle.std.proofs.Common.{length, sym, subst, true≢false}
use Rattle.sok_board.specs.Area.{position_of}
use Rattle.sok_closed.specs.Fine.{AreFine}
use Rattle.sok_closed.proofs.Entered.{missing}
use Rattle.sok_closed.proofs.Fine.{closed-fine}
use Rattle.sok_bar.specs.Patterns.{IsBarredAlone, inner_node}
use Rattle.sok_bar.proofs.alone.are_closed_by.Goals as goal

pub returns-then-not-branch : goal.returns-then-not-branch
returns-then-not-branch c =
    let b = c.args.setting.now.board.now in
    let boxes = c.args.boxes.now in
    let inner = c.args.inner.now in
    let none = subst (λ bs. AreFine inner_node b (length bs) (IsBarredAlone b) inner (length inner) → ⊥) c.list-count.ensures.list
    (missing _ _ c.in_ok-enter_all.field-0 c.in_ok-enter_all.ensures.entered c.if-not-branch.true) in (
      λ wrong. absurd (true≢false (sym wrong)),
      λ closed. absurd (none
          (closed-fine inner_node b (length boxes) (IsBarredAlone b) (position_of b c.args.player boxes) inner closed)),
    )

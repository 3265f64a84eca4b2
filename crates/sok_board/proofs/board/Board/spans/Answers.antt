use Rattle.std.proofs.Common.{length, sym, subst}
use Rattle.sok_board.specs.Boards.{IsNumbering}
use Rattle.sok_board.specs.Spans.{Covers}
use Rattle.sok_board.proofs.board.Board.spans.Goals as goal

pub returns-clause-spans : goal.returns-clause-spans
returns-clause-spans c =
    let b = c.args.self.now in
    let kept = subst (λ a. IsNumbering a c.self.inside.numbering) c.self.view_is c.self.invariant in
    subst (λ spans. Covers b 0 spans (length b.area)) (sym c.deref.ensures.value) kept.spans

use Rattle.std.proofs.Common.{◌≡◌, ◌<◌, None, IfSome, ap, sym, ◌∙◌, subst, length}
use Rattle.sok_board.specs.Area.{spot_of}
use Rattle.sok_board.specs.Boards.{IsNumbering}
use Rattle.sok_board.specs.Tables.{entry}
use Rattle.sok_board.proofs.Accepted.{IfSome-number_of}
use Rattle.sok_board.proofs.board.Board.square.Goals as goal

pub returns-clause-inverse : goal.returns-clause-inverse
returns-clause-inverse c =
    let b = c.args.self.now in
    let s = c.args.spot in
    let kept = subst (λ a. IsNumbering a c.self.inside.numbering) c.self.view_is c.self.invariant in
    let number = c.entry.ensures ∙ ap (λ table. entry None table s) c.deref.ensures.value ∙ kept.numbers s in
    subst (λ o. IfSome o (λ n. (n < length b.area) × (spot_of b n ≡ s))) (sym number) (IfSome-number_of b s)

use Rattle.std.proofs.Common.{◌+◌, true≢false, sym, ◌∙◌, subst}
use Rattle.sok_state.specs.Listing.{Lists, place}
use Rattle.sok_state.proofs.Listed.{Lists-illegal, Lists-legal}
use Rattle.sok_state.proofs.legal.list_push.Goals as goal

pub returns-then-is_legal-clause-listed : goal.returns-then-is_legal-clause-listed
returns-then-is_legal-clause-listed c = λ key drawn among lists.
    let b = c.args.board.now in
    let push = c.args.push in
    let pushed = rw c.unwrap.ensures at c.push.ensures.items in
    subst (Lists b key (place push + 1)) (sym pushed)
    (Lists-legal b key push c.args.pushes.now.items ((c.is_legal.ensures key drawn among).0 c.if-is_legal.true) lists)

pub returns-else-is_legal-clause-listed : goal.returns-else-is_legal-clause-listed
returns-else-is_legal-clause-listed c = λ key drawn among.
    Lists-illegal c.args.board.now key c.args.push c.args.pushes.now.items
    (λ legal. true≢false (sym ((c.is_legal.ensures key drawn among).1 legal) ∙ c.if-is_legal.false))

use Rattle.std.proofs.Common.{◌∙◌, subst, sym, true≢false}
use Rattle.sok_state.specs.Listing.{HasBeside}
use Rattle.sok_state.proofs.Drawn.{drawn-ahead, drawn-behind, legal-drawn}
use Rattle.sok_state.proofs.legal.is_legal.Goals as goal

pub returns-then-has_beside : goal.returns-then-has_beside
returns-then-has_beside c = λ key drawn among.
    let b = c.args.board.now in
    let push = c.args.push in
    let behind = subst (HasBeside b c.args.seen.now push.from) c.opposite.ensures (c.has_beside.ensures.0 c.if-has_beside.true) in (
      λ ahead. legal-drawn b c.requires.accepted key c.args.free.now c.args.seen.now drawn push among behind (c.has_beside-then-has_beside.ensures.0 ahead),
      λ legal. c.has_beside-then-has_beside.ensures.1 (drawn-ahead b c.requires.accepted key c.args.free.now c.args.seen.now drawn push legal),
    )

pub returns-else-has_beside : goal.returns-else-has_beside
returns-else-has_beside c = λ key drawn among.
    let b = c.args.board.now in
    let push = c.args.push in (
      λ comes. absurd (true≢false (sym comes ∙ c.if-has_beside.false)),
      λ legal. c.has_beside.ensures.1 (subst (HasBeside b c.args.seen.now push.from) (sym c.opposite.ensures)
          (drawn-behind b c.requires.accepted key c.args.free.now c.args.seen.now drawn push legal)),
    )

use Rattle.std.proofs.Common.{◌∙◌, sym, subst, IfSome, true≢false}
use Rattle.sok_alone.specs.Judging.{IsBarring}
use Rattle.sok_alone.proofs.Fitting.{stands-barred, stands-expanded}
use Rattle.sok_alone.proofs.judging.judge.Goals as goal

pub returns-then-is_solved : goal.returns-then-is_solved
returns-then-is_solved c = (c.is_solved.ensures c.args.key.now.least).0 c.if-is_solved.true

pub returns-in-Some : goal.returns-in-Some
returns-in-Some c =
    let b = c.args.setting.now.board.now in
    let key = c.args.key.now in
    stands-barred b c.requires.accepted key c.requires.placed c.in-Some.reason
    (subst (λ o. IfSome o (IsBarring b key.boxes)) c.in-Some.is c.in_ok-reason.ensures)

pub returns-in-None : goal.returns-in-None
returns-in-None c =
    let key = c.args.key.now in
    stands-expanded c.args.setting.now.board.now c.requires.accepted key c.requires.placed
    (λ solved. true≢false (sym ((c.is_solved.ensures key.least).1 solved) ∙ c.if-is_solved.false))

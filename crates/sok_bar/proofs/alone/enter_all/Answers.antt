use Rattle.std.proofs.Common.{◌∙◌, ap, sym, subst, arith, drop, length, take, Some}
use Rattle.std.proofs.lemmas.List.{length-take-le, take-append-drop}
use Rattle.std.proofs.lemmas.Option.{slice_get-get_or}
use Rattle.sok_closed.specs.Fine.{IsFine}
use Rattle.sok_closed.proofs.Entered.{missing}
use Rattle.sok_closed.proofs.Fine.{IsFine-front}
use Rattle.sok_bar.specs.Patterns.{IsBarredAlone, inner_node}
use Rattle.sok_bar.proofs.alone.enter_all.Goals as goal

pub returns-then-not-branch-clause-entered : goal.returns-then-not-branch-clause-entered
returns-then-not-branch-clause-entered c = λ fine.
    let b = c.args.setting.now.board.now in
    let inner = c.args.inner.now in
    let i = c.loop-one.one-index in
    let one = c.one-item.result in
    let within = c.loop-one-test.true in
    let here = fine i one within (slice_get-get_or inner i one within ∙ ap Some (sym c.one-item.is)) in
    let front : IsFine inner_node b c.args.count (IsBarredAlone b) (take i inner) (length (take i inner)) one =
    IsFine-front inner_node b c.args.count (IsBarredAlone b) (take i inner) (drop i inner) i one (omega (arith, length-take-le i inner (omega (arith, within))))
    (subst (λ es. IsFine inner_node b c.args.count (IsBarredAlone b) es i one) (sym (take-append-drop i inner)) here) in
    missing _ _ c.in_ok-enter_alone.field-0 (c.in_ok-enter_alone.ensures.tells (take i inner) c.loop-one.invariant.entered) c.if-not-branch.true front

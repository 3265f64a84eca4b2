use Rattle.std.proofs.Common.{◌∙◌, ap, sym, subst, inr}
use Rattle.sok_board.specs.Area.{BoardView, spot_of}
use Rattle.sok_field.specs.Fields.{has}
use Rattle.sok_distance.specs.Pushing.{IsStuck}
use Rattle.sok_corral.proofs.Shutting.{shut-blocked, shut-inward, shut-stuck}
use Rattle.sok_corral.proofs.testing.is_shut.Goals as goal

pub returns-then-stuck-clause-shut : goal.returns-then-stuck-clause-shut
returns-then-stuck-clause-shut c = λ key opened lone yes within roams.
    shut-stuck c.args.setting.now.board.now c.requires.accepted c.args.scene.now c.args.lone.now c.args.man c.args.to c.requires.man c.requires.to key opened lone
    c.args.from within (subst (λ (b : BoardView). IsStuck b c.args.to) c.args.setting.now.own (c.stuck.ensures.0 c.if-stuck.true))

pub returns-then-has-clause-shut : goal.returns-then-has-clause-shut
returns-then-has-clause-shut c = λ key opened lone yes within roams.
    let b = c.args.setting.now.board.now in
    shut-blocked b c.requires.accepted c.args.scene.now c.args.lone.now c.args.man c.args.to c.requires.man c.requires.to key opened lone c.args.from within
    (sym c.has-2.ensures ∙ c.if-not-has-2.true) (sym (c.has-then-not-has-2.ensures ∙ ap (λ set. has set (spot_of b c.args.to)) c.boxed.ensures) ∙ c.if-has.true)

pub returns-then-has-2-clause-shut : goal.returns-then-has-2-clause-shut
returns-then-has-2-clause-shut c = λ key opened lone yes within roams.
    let b = c.args.setting.now.board.now in
    shut-inward b c.requires.accepted c.args.scene.now c.args.lone.now c.args.man c.args.to c.requires.man c.requires.to key opened lone c.args.from within
    (sym c.has-2.ensures ∙ c.if-not-has-2.true) (sym (c.has-then-not-has-2.ensures ∙ ap (λ set. has set (spot_of b c.args.to)) c.boxed.ensures) ∙ c.if-has.false)
    (sym c.has-then-not-has-2-2.ensures ∙ c.if-has-2.true)

pub returns-clause-shut : goal.returns-clause-shut
returns-clause-shut c = λ key opened lone yes within roams. inr (inr (c.is_jammed.ensures.jammed key lone yes c.args.man))

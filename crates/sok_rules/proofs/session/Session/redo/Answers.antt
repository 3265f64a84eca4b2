use Rattle.std.proofs.Common.{◌+◌, ◌∙◌, sym, ap, subst, arith, refl}
use Rattle.std.proofs.lemmas.Option.{MatchOption-at_some, none-some}
use Rattle.sok_rules.specs.Play.{one_if, start, step}
use Rattle.sok_rules.specs.Scene.{Steps}
use Rattle.sok_rules.specs.Session.{Redoes}
use Rattle.sok_rules.proofs.Replays.{one_if-is}
use Rattle.sok_rules.proofs.Sessions.{IsSession-redone, IsSession-same, Redoes-viewed, few_pushes, legal_redo, some_step, viewed}
use Rattle.sok_rules.proofs.session.Session.redo.Goals as goal

pub unwrap-pushed-requires : goal.unwrap-pushed-requires
unwrap-pushed-requires c =
    let s = c.self.inside in
    let d = c.index.result.now in
    let legal = legal_redo s.level s.scene s.letters.items s.pushed.items s.played s.pushes d c.self.invariant
    (omega (arith, c.self.invariant.mark, c.len.ensures, s.letters.ok.0, c.if-self-len.false)) in
    some_step _ _ c.step.result c.step.ensures (λ none. none-some legal.0 (sym none.0 ∙ ap (λ e. step s.scene e (start s.scene)) c.index.ensures ∙ legal.1))

pub overflow_add-self-2 : goal.overflow_add-self-2
overflow_add-self-2 c = omega (arith, few_pushes _ _ _ _ _ _ c.self.invariant, c.from.ensures, one_if-is c.unwrap-pushed.result)

pub invariant_of-self : goal.invariant_of-self
invariant_of-self c =
    let s = c.self.inside in
    let p = c.unwrap-pushed.result in
    let steps = MatchOption-at_some _ (λ pushed. Steps s.scene c.index.result.now pushed c.step.new.self) p c.unwrap-pushed.ensures c.step.ensures in
    IsSession-same s.level c.step.new.self _ _ _ _ (s.played + 1) (s.pushes + one_if p) (s.pushes + c.from.result) refl refl (omega (arith, c.from.ensures))
    (IsSession-redone s.level s.scene c.step.new.self s.letters.items s.pushed.items s.played s.pushes c.index.result.now p c.self.invariant
    (omega (arith, c.self.invariant.mark, c.len.ensures, s.letters.ok.0, c.if-self-len.false))
    (subst (λ d. Steps s.scene d p c.step.new.self) c.index.ensures steps))

pub returns : goal.returns
returns c =
    let s = c.self.inside in
    subst (λ old. Redoes old (viewed s.level s.letters.items (s.played + 1))) c.self.view_is
    (Redoes-viewed s.level s.letters.items s.played c.index.result.now
    (omega (arith, c.self.invariant.mark, c.len.ensures, s.letters.ok.0, c.if-self-len.false)) c.index.ensures)

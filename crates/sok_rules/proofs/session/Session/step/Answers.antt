use Rattle.std.proofs.Common.{◌≡◌, ◌<◌, ◌++◌, ◌∷◌, [], ◌∙◌, sym, ap, subst, arith, ◌+◌, length, take}
use Rattle.std.proofs.lemmas.List.{length-take-le}
use Rattle.std.proofs.lemmas.Result.{err_from_is_err_and}
use Rattle.sok_rules.specs.declared.fault.PlayFault.TheVariants.{Blocked, Memory}
use Rattle.sok_rules.specs.Play.{one_if}
use Rattle.sok_rules.specs.Session.{StaysAt, StepsOn}
use Rattle.sok_rules.proofs.Replays.{one_if-is}
use Rattle.sok_rules.proofs.Sessions.{IsNone-blocked, IsSession-same, IsSession-stepped, StaysAt-memory, StepsOn-stepped, few_pushes, length-IsSession, viewed}
use Rattle.sok_rules.proofs.session.Session.step.Goals as goal

pub reserve_behind-requires-2 : goal.reserve_behind-requires-2
reserve_behind-requires-2 c = omega (arith, length-IsSession _ _ _ _ _ _ c.self.invariant, c.self.invariant.mark, c.self.inside.pushed.ok.0)

pub put_behind-requires-in-Some-clause-within : goal.put_behind-requires-in-Some-clause-within
put_behind-requires-in-Some-clause-within c =
    omega (
      arith,
      length-IsSession _ _ _ _ _ _ c.self.invariant,
      c.self.invariant.mark,
      ap length c.in_ok-reserve_behind-2.ensures.same,
      c.self.inside.pushed.ok.0,
    )

pub overflow_add-self-in-Some : goal.overflow_add-self-in-Some
overflow_add-self-in-Some c = omega (arith, few_pushes _ _ _ _ _ _ c.self.invariant, c.from.ensures, one_if-is c.in-Some.pushed)

pub invariant_of-self-in-Some : goal.invariant_of-self-in-Some
invariant_of-self-in-Some c =
    let s = c.self.inside in
    let few : s.played < 1000000 = omega (arith, c.self.invariant.mark, c.self.invariant.few, c.if-self-eq-LIMIT.false) in
    IsSession-same s.level c.step.new.self _ _ _ _ (s.played + 1) (s.pushes + one_if c.in-Some.pushed) (s.pushes + c.from.result)
    (c.put_behind.ensures ∙ ap (λ items. take s.played items ++ c.args.dir ∷ []) c.in_ok-reserve_behind.ensures.same)
    (c.put_behind-in-Some.ensures ∙ ap (λ items. take s.played items ++ c.in-Some.pushed ∷ []) c.in_ok-reserve_behind-2.ensures.same)
    (omega (arith, c.from.ensures))
    (IsSession-stepped s.level s.scene c.step.new.self s.letters.items s.pushed.items s.played s.pushes c.args.dir c.in-Some.pushed c.self.invariant few
    c.in-Some.ensures)

pub returns-in_err-reserve_behind-2 : goal.returns-in_err-reserve_behind-2
returns-in_err-reserve_behind-2 c =
    let s = c.self.inside in
    let p = err_from_is_err_and c.from_residual-in_err-reserve_behind-2.result c.from_residual-in_err-reserve_behind-2.ensures.1 in
    let end : s.played ≡ length s.letters.items =
    omega (arith, length-IsSession _ _ _ _ _ _ c.self.invariant, c.in_err-reserve_behind-2.ensures.full, s.pushed.ok.0) in
    let few : s.played < 1000000 = omega (arith, c.self.invariant.mark, c.self.invariant.few, c.if-self-eq-LIMIT.false) in
    rw (p.1, p.2) (subst (λ old. StaysAt old c.args.dir (viewed s.level c.reserve_behind.new.items.items s.played) Memory) c.self.view_is
    (StaysAt-memory s.level s.letters.items c.reserve_behind.new.items.items s.played c.args.dir c.in_ok-reserve_behind.ensures.same end few))

pub returns-in-None : goal.returns-in-None
returns-in-None c =
    let s = c.self.inside in
    let size = length-take-le s.played s.letters.items c.self.invariant.mark in
    subst (λ old. StaysAt old c.args.dir (viewed s.level c.reserve_behind.new.items.items s.played) (Blocked s.played)) c.self.view_is (record {
      unchanged = ap (λ items. viewed s.level items s.played) c.in_ok-reserve_behind.ensures.same;
      cause = (
        omega (arith, size, c.self.invariant.mark, c.self.invariant.few, c.if-self-eq-LIMIT.false),
        sym size,
        IsNone-blocked _ _ _ _ _ _ _
            c.self.invariant c.in-None.ensures.0,
      );
    })

pub returns-in-Some : goal.returns-in-Some
returns-in-Some c =
    let s = c.self.inside in
    subst (λ old. StepsOn old c.args.dir (viewed s.level c.put_behind.new.items.items (s.played + 1)) c.in-Some.pushed) c.self.view_is
    (StepsOn-stepped s.level s.scene c.step.new.self s.letters.items c.put_behind.new.items.items s.pushed.items s.played s.pushes c.args.dir
    c.in-Some.pushed c.self.invariant
    (omega (arith, c.self.invariant.mark, c.self.invariant.few, c.if-self-eq-LIMIT.false)) c.in-Some.ensures
    (c.put_behind.ensures ∙ ap (λ items. take s.played items ++ c.args.dir ∷ []) c.in_ok-reserve_behind.ensures.same))

use Rattle.std.proofs.Common.{◌≡◌, ◌+◌, ◌-◌, subst, arith}
use Rattle.sok_rules.specs.Kept.{IsSession}
use Rattle.sok_rules.proofs.Replays.{one_if-is}
use Rattle.sok_rules.proofs.Sessions.{IsSession-undone, length-IsSession, was_before}
use Rattle.sok_rules.proofs.session.Session.undo.Goals as goal

pub index-pushed-requires : goal.index-pushed-requires
index-pushed-requires c = omega (arith, length-IsSession _ _ _ _ _ _ c.self.invariant, c.self.invariant.mark, c.self.inside.pushed.ok.0, c.if-self-eq0.false)

pub back-requires : goal.back-requires
back-requires c =
    let s = c.self.inside in
    let before = was_before s.level s.scene s.letters.items s.pushed.items s.played s.pushes c.index.result.now c.index-pushed.result.now c.self.invariant
    c.if-self-eq0.false c.index.ensures c.index-pushed.ensures in
    (before.x, before.came)

pub overflow_sub-self : goal.overflow_sub-self
overflow_sub-self c =
    let s = c.self.inside in
    let before = was_before s.level s.scene s.letters.items s.pushed.items s.played s.pushes c.index.result.now c.index-pushed.result.now c.self.invariant
    c.if-self-eq0.false c.index.ensures c.index-pushed.ensures in
    omega (arith, before.counted, c.from.ensures, one_if-is c.index-pushed.result.now)

pub invariant_of-self : goal.invariant_of-self
invariant_of-self c =
    let s = c.self.inside in
    let p = c.index-pushed.result.now in
    let before = was_before s.level s.scene s.letters.items s.pushed.items s.played s.pushes c.index.result.now p c.self.invariant c.if-self-eq0.false
    c.index.ensures c.index-pushed.ensures in
    let one_more : s.played ≡ (s.played - 1) + 1 = omega (arith, c.if-self-eq0.false) in
    IsSession-undone s.level s.scene c.back.new.self s.letters.items s.pushed.items (s.played - 1) s.pushes (s.pushes - c.from.result) c.index.result.now p
    (subst (λ n. IsSession s.level s.scene s.letters.items s.pushed.items n s.pushes) one_more c.self.invariant) before c.back.ensures.ground
    (c.back.ensures.position before.x before.came)
    (omega (arith, before.counted, c.from.ensures, one_if-is p))

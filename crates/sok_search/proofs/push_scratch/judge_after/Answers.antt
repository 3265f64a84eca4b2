use Rattle.std.proofs.Common.{ℕ, IfSome, Option, [], ◌∷◌, inl, refl, subst, sym}
use Rattle.sok_board.specs.Area.{BoardView}
use Rattle.sok_distance.specs.Pushing.{IsStuck}
use Rattle.sok_search.proofs.Reasons.{stuck-among, stuck-crowd}
use Rattle.sok_board.specs.BoxSets.{put_in_order}
use Rattle.sok_region.specs.Layouts.{IsLaidOut}
use Rattle.sok_price.specs.Matched.{TellsLeast}
use Rattle.sok_state.specs.declared.scene.Scene.{Scene}
use Rattle.sok_bar.specs.Bars.{Barring}
use Rattle.sok_alone.specs.Losses.{IsLostBy}
use Rattle.sok_search.proofs.push_scratch.judge_after.Goals as goal

pub returns-then-stuck-clause-judged : goal.returns-then-stuck-clause-judged
returns-then-stuck-clause-judged c losses player lost =
    let b = c.args.setting.now.board.now in
    let after = put_in_order c.args.step.push.from c.args.step.to c.args.before.now in
    let stuck = subst (λ (board : BoardView). IsStuck board c.args.step.to) c.args.setting.now.own (c.stuck.ensures.0 c.if-stuck.true) in
    let (place, at) = stuck-among b after c.args.step.to ((c.requires.moved.moved c.args.step.to).1 (inl refl)) stuck in
    (Barring.crowd (place ∷ []), tt, λ player rest. stuck-crowd b after place at)

pub is_jammed-requires-clause-laid : goal.is_jammed-requires-clause-laid
is_jammed-requires-clause-laid c = (c.args.before.now, (put_in_order c.args.step.push.from c.args.step.to c.args.before.now), c.requires.moved, c.requires.laid)

pub returns-then-is_jammed-clause-laid : goal.returns-then-is_jammed-clause-laid
returns-then-is_jammed-clause-laid c =
    c.is_jammed.ensures.laid c.args.before.now (put_in_order c.args.step.push.from c.args.step.to c.args.before.now) c.requires.moved c.requires.laid

pub returns-then-is_jammed-clause-judged : goal.returns-then-is_jammed-clause-judged
returns-then-is_jammed-clause-judged c losses player lost =
    let after = put_in_order c.args.step.push.from c.args.step.to c.args.before.now in
    let (members, jam, with_box) = (c.if-is_jammed.ensures.jammed c.args.before.now after c.requires.moved c.requires.laid).0 refl in
    (Barring.frozen members, tt, λ player rest. jam)

pub returns-in-Some-clause-laid : goal.returns-in-Some-clause-laid
returns-in-Some-clause-laid c =
    c.is_jammed.ensures.laid c.args.before.now (put_in_order c.args.step.push.from c.args.step.to c.args.before.now) c.requires.moved c.requires.laid

pub returns-in-Some-clause-judged : goal.returns-in-Some-clause-judged
returns-in-Some-clause-judged c losses player lost =
    let after = put_in_order c.args.step.push.from c.args.step.to c.args.before.now in
    subst (λ (o : Option ℕ). IfSome o (IsLostBy c.args.setting.now.board.now player after losses)) c.in-Some.is lost

pub returns-in-Some-2-clause-laid : goal.returns-in-Some-2-clause-laid
returns-in-Some-2-clause-laid c = subst (λ (scene : Scene). IsLaidOut c.args.setting.now.board.now c.args.before.now scene.layout) (sym c.bound_after.ensures.scene)
    (c.is_jammed.ensures.laid c.args.before.now (put_in_order c.args.step.push.from c.args.step.to c.args.before.now) c.requires.moved c.requires.laid)

pub returns-in-Some-2-clause-judged : goal.returns-in-Some-2-clause-judged
returns-in-Some-2-clause-judged c losses player lost =
    let after = put_in_order c.args.step.push.from c.args.step.to c.args.before.now in
    subst (TellsLeast c.args.setting.now.board.now after) c.in-Some-2.is c.in_ok-bound.ensures.least

pub returns-in-None-clause-laid : goal.returns-in-None-clause-laid
returns-in-None-clause-laid c = subst (λ (scene : Scene). IsLaidOut c.args.setting.now.board.now c.args.before.now scene.layout) (sym c.bound_after.ensures.scene)
    (c.is_jammed.ensures.laid c.args.before.now (put_in_order c.args.step.push.from c.args.step.to c.args.before.now) c.requires.moved c.requires.laid)

pub returns-in-None-clause-judged : goal.returns-in-None-clause-judged
returns-in-None-clause-judged c losses player lost =
    let after = put_in_order c.args.step.push.from c.args.step.to c.args.before.now in
    let (members, crowd) = subst (TellsLeast c.args.setting.now.board.now after) c.in-None.is c.in_ok-bound.ensures.least in
    (Barring.crowd members, tt, λ player rest. crowd)

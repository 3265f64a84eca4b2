use Rattle.std.proofs.Common.{◌∙◌, sym, ap, arith, subst, refl, IsSome}
use Rattle.std.proofs.lemmas.List.{take_all}
use Rattle.sok_rules.specs.declared.cell.Dir.TheVariants.{Left}
use Rattle.sok_rules.specs.Play.{start, run, pushes}
use Rattle.sok_rules.proofs.Replays.{GoesOn-from_Steps, one_if-is, IsBlockedAt-from_None, solved-SameGround}
use Rattle.sok_rules.proofs.play.replay.Goals as goal

pub returns-in-None : goal.returns-in-None
returns-in-None c =
    IsBlockedAt-from_None c.args.level.now c.loop-at.scene c.args.dirs.now c.loop-at.at Left
    (omega arith) c.loop-at.invariant.ground c.loop-at.invariant.ran c.in-None.ensures.0

pub loop-at-preserved : goal.loop-at-preserved
loop-at-preserved c =
    let next = GoesOn-from_Steps c.args.level.now c.loop-at.scene c.step.new.self c.args.dirs.now c.loop-at.at Left c.in-Some.pushed (omega arith)
    c.loop-at.invariant.ground c.loop-at.invariant.ran c.in-Some.ensures in
    record {
      ground = next.ground;
      ran = next.ran;
      counted = omega (arith, c.from-pushes.ensures, c.loop-at.invariant.counted, next.counted, one_if-is c.in-Some.pushed);
      few = omega (arith, c.from-pushes.ensures, c.loop-at.invariant.few, one_if-is c.in-Some.pushed);
    }

pub returns : goal.returns
returns c =
    let rows = c.args.level.now in
    let w = c.args.dirs.now in
    let all = take_all c.loop-at.at w (omega arith) in
    let ran = ap (run rows (start rows)) (sym all) ∙ c.loop-at.invariant.ran in
    let solved = solved-SameGround rows c.loop-at.scene w c.loop-at.invariant.ground ran in
    record {
      legal = subst IsSome (sym ran) refl;
      solved = (λ yes. solved.0 (c.is_solved.ensures.0 yes), λ solves. c.is_solved.ensures.1 (solved.1 solves));
      pushes = c.loop-at.invariant.counted ∙ ap (pushes rows (start rows)) all;
      moves = refl;
    }

use Rattle.std.proofs.Common.{◌∙◌, ◌++◌, ◌∷◌, [], sym, ap, arith, subst, refl, IsSome}
use Rattle.std.proofs.lemmas.List.{take_all}
use Rattle.sok_rules.specs.declared.cell.Dir.TheVariants.{Left}
use Rattle.sok_rules.specs.Play.{start, run}
use Rattle.sok_rules.specs.Replay.{push_marks}
use Rattle.sok_rules.proofs.Marks.{push_marks-take_more}
use Rattle.sok_rules.proofs.Replays.{GoesOn-from_Steps, IsBlockedAt-from_None, step-SameGround}
use Rattle.sok_rules.proofs.play.mark_pushes.Goals as goal

pub returns-in-None : goal.returns-in-None
returns-in-None c =
    IsBlockedAt-from_None c.args.level.now c.loop-place.scene c.args.dirs.now c.loop-place.place Left
    (omega arith) c.loop-place.invariant.ground c.loop-place.invariant.ran
    c.in-None.ensures.0

pub loop-place-preserved : goal.loop-place-preserved
loop-place-preserved c =
    let rows = c.args.level.now in
    let w = c.args.dirs.now in
    let next = GoesOn-from_Steps rows c.loop-place.scene c.step.new.self w c.loop-place.place Left c.in-Some.pushed (omega arith)
    c.loop-place.invariant.ground c.loop-place.invariant.ran c.in-Some.ensures in
    let leads = step-SameGround rows c.loop-place.scene _ (start c.loop-place.scene) c.loop-place.invariant.ground ∙ c.in-Some.ensures.leads in
    record {
      ground = next.ground;
      ran = next.ran;
      marked = c.in_ok-push-in-Some.ensures.items ∙ ap (λ marks. marks ++ c.in-Some.pushed ∷ []) c.loop-place.invariant.marked
          ∙ sym (push_marks-take_more rows (start rows) (start c.loop-place.scene) w c.loop-place.place Left _ (omega arith) c.loop-place.invariant.ran leads);
    }

pub returns : goal.returns
returns c =
    let rows = c.args.level.now in
    let w = c.args.dirs.now in
    let all = take_all c.loop-place.place w (omega arith) in
    record {
      legal = subst IsSome (sym (ap (run rows (start rows)) (sym all) ∙ c.loop-place.invariant.ran)) refl;
      are = c.loop-place.invariant.marked ∙ ap (push_marks rows (start rows)) all;
    }

use Rattle.std.proofs.Common.{All, Contains, List, ℕ, arith, subst, below_more, get_or}
use Rattle.std.proofs.lemmas.List.{get_or_default}
use Rattle.std.proofs.lemmas.List.Elements.{All-contains_itself}
use Rattle.sok_rules.specs.declared.cell.Dir.{Dir}
use Rattle.sok_rules.specs.declared.cell.Dir.TheVariants.{Left}
use Rattle.sok_corral.specs.Fencing.{AreShutAlong, TellsShut}
use Rattle.sok_corral.proofs.Shutting.{dirs, each-dir}
use Rattle.sok_corral.proofs.testing.look.Goals as goal

pub look_along-requires-clause-there : goal.look_along-requires-clause-there
look_along-requires-clause-there c =
    let items = c.deref-from-items.result.now in
    subst (λ (xs : List ℕ). Contains xs (get_or items c.loop-from.from-index 0)) c.deref-from-items.ensures.value
    (All-contains_itself items c.loop-from.from-index 0 c.loop-from-test.true)

pub loop-dir-preserved : goal.loop-dir-preserved
loop-dir-preserved c =
    let b = c.args.setting.now.board.now in
    let Shut = AreShutAlong b c.args.scene.now c.args.lone.now (get_or c.deref-from-items.result.now c.loop-from.from-index 0) in
    record {
      laid = c.look_along.ensures.laid;
      shut = below_more (λ k. Shut (get_or dirs k Left)) c.loop-dir.dir-index c.loop-dir.invariant.shut
          (subst (TellsShut b (Shut (get_or dirs c.loop-dir.dir-index Left))) c.in-Shut.is c.look_along.ensures.shut);
    }

pub loop-from-preserved : goal.loop-from-preserved
loop-from-preserved c =
    let past = c.loop-dir-test.false in
    let Shut = λ (k : ℕ). AreShutAlong c.args.setting.now.board.now c.args.scene.now c.args.lone.now (get_or c.deref-from-items.result.now k 0) in
    record {
      laid = c.loop-dir.invariant.laid;
      shut = below_more (λ k. (d : Dir) → Shut k d) c.loop-from.from-index c.loop-from.invariant.shut
          (each-dir (Shut c.loop-from.from-index) (λ k below. c.loop-dir.invariant.shut k (omega (arith, below, past))));
    }

pub returns-clause-shut : goal.returns-clause-shut
returns-clause-shut c =
    let items = c.deref-from-items.result.now in
    let past = c.loop-from-test.false in
    let Shut = λ (from : ℕ). (d : Dir) → AreShutAlong c.args.setting.now.board.now c.args.scene.now c.args.lone.now from d in
    subst (All Shut) c.deref-from-items.ensures.value
    (λ k other within. subst Shut (get_or_default items k 0 other within) (c.loop-from.invariant.shut k (omega (arith, within, past))))

use Rattle.std.proofs.Common.{[], List, arith, length, refl, subst, sym, true≢false, ℕ, ◌∙◌}
use Rattle.sok_lift.specs.Lifts.{HasLifts}
use Rattle.sok_lift.specs.Numbers.{lift_in}
use Rattle.sok_lift.proofs.Pairing.{ArePairs-none}
use Rattle.sok_state.proofs.Moves.{moved-same}
use Rattle.sok_search.specs.declared.note.Standing.{Standing}
use Rattle.sok_search.specs.declared.note.Standing.TheVariants.{Open}
use Rattle.sok_search.specs.Steps.{IsRaised}
use Rattle.sok_search.proofs.push_scratch.raise_after.Goals as goal

pub returns-in_ok-more-in-Open : goal.returns-in_ok-more-in-Open
returns-in_ok-more-in-Open c = λ after moved rising.
    let t = c.args.lifts.now in
    let found = c.in_ok-after-in-Open in
    let same = moved-same c.args.before.now after found.after c.args.step.push.from c.args.step.to moved rising found.ensures.moved found.ensures.rising in
    let new = c.saturating_add.result in
    let sum = c.saturating_add.ensures in
    subst (λ (s : Standing). IsRaised t c.args.whole c.args.step.push.from after s (Open new)) (sym c.in-Open.is) (
      new,
      refl,
      record {
        more = c.in_ok-more-in-Open.more;
        lifts = subst (λ (boxes : List ℕ). HasLifts (lift_in t) c.args.step.push.from boxes c.in_ok-more-in-Open.more) (sym same) c.in_ok-more-in-Open.ensures;
        no_less = omega (arith, sum);
        no_more = omega (arith, sum);
        same = λ whole. absurd (true≢false (sym whole ∙ c.if-not-whole.true));
      },
    )

pub returns-in_default : goal.returns-in_default
returns-in_default c = λ after moved rising.
    let t = c.args.lifts.now in
    let bound = c.in-Open.bound in
    subst (λ (s : Standing). IsRaised t c.args.whole c.args.step.push.from after s (Open bound)) (sym c.in-Open.is) (
      bound,
      refl,
      record {
        more = 0;
        lifts = record { pairs = []; are = ArePairs-none (length after); total = omega arith };
        no_less = omega arith;
        no_more = omega arith;
        same = λ whole. refl;
      },
    )

use Rattle.std.proofs.Common.{inl, inr, arith, true}
use Rattle.sok_field.proofs.Stepping.{GoesOn-more}
use Rattle.sok_field.proofs.sweep.sweep_up.Goals as goal

pub loop-r-preserved-then-met : goal.loop-r-preserved-then-met
loop-r-preserved-then-met c = record {
  within = omega arith;
  below = c.meet_row-row.ensures.row;
  goes_on = λ start flood.
      let so_far = c.loop-r.invariant.goes_on start flood in
      GoesOn-more true so_far (c.meet_row-row.ensures.goes_on start so_far.flooding) (λ _. inr c.if-met.true);
}

pub loop-r-preserved : goal.loop-r-preserved
loop-r-preserved c = record {
  within = omega arith;
  below = c.meet_row-row.ensures.row;
  goes_on = λ start flood.
      let so_far = c.loop-r.invariant.goes_on start flood in
      GoesOn-more c.loop-r.grown so_far (c.meet_row-row.ensures.goes_on start so_far.flooding) (λ e. inl e);
}

pub returns-then-r-low-clause-goes_on : goal.returns-then-r-low-clause-goes_on
returns-then-r-low-clause-goes_on c = λ start flood.
    let so_far = c.loop-r.invariant.goes_on start flood in
    GoesOn-more c.loop-r.grown so_far (c.meet_row-row.ensures.goes_on start so_far.flooding) (λ e. inl e)

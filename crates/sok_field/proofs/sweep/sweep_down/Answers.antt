use Rattle.std.proofs.Common.{arith}
use Rattle.sok_field.proofs.Stepping.{GoesOn-then}
use Rattle.sok_field.proofs.sweep.sweep_down.Goals as goal

pub loop-r-preserved : goal.loop-r-preserved
loop-r-preserved c = record {
  within = omega arith;
  above = c.meet_row-row.ensures.row;
  goes_on = λ start flood.
      let so_far = c.loop-r.invariant.goes_on start flood in
      GoesOn-then so_far (c.meet_row-row.ensures.goes_on start so_far.flooding);
}

pub returns-then-r-high-clause-goes_on : goal.returns-then-r-high-clause-goes_on
returns-then-r-high-clause-goes_on c = λ start flood.
    let so_far = c.loop-r.invariant.goes_on start flood in
    GoesOn-then so_far (c.meet_row-row.ensures.goes_on start so_far.flooding)

use Rattle.std.proofs.Common.{false, subst, sym}
use Rattle.sok_field.specs.Fields.{has}
use Rattle.sok_field.specs.Sweeps.{GoesOn}
use Rattle.sok_field.proofs.Flooding.{IsSpreading-begun}
use Rattle.sok_field.proofs.Stepping.{GoesOn-then}
use Rattle.sok_field.proofs.sweep.step_rows.Goals as goal
use Rattle.sok_field.proofs.sweep.step_rows.Goals.{then-seen-r-ne0, else-seen-r-ne0}

pub step_row-requires-clause-inside : goal.step_row-requires-clause-inside
step_row-requires-clause-inside c =
    let start = has c.args.seen.now in
    let so_far = c.loop-r.invariant start (IsSpreading-begun c.args.free.now c.args.seen.now (sym c.requires.whole) c.requires.inside) in
    so_far.flooding.inside c.loop-r.r

pub loop-r-preserved : goal.loop-r-preserved
loop-r-preserved c = λ start flood.
    let so_far = c.loop-r.invariant start flood in
    elim c.if-seen-r-ne0.branch [
      | then-seen-r-ne0 w ↦ subst (λ rows. GoesOn c.args.free.now start c.args.seen.now rows false) (sym w.seen-is)
          (GoesOn-then so_far (w.step_row.ensures start so_far.flooding))
      | else-seen-r-ne0 w ↦ subst (λ rows. GoesOn c.args.free.now start c.args.seen.now rows false) (sym w.seen-is) so_far
    ]

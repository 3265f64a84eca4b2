use Rattle.std.proofs.Common.{Bool, false}
use Rattle.sok_rules.specs.declared.cell.Spot.{Spot}
use Rattle.sok_field.specs.Floods.{IsSpreading}
use Rattle.sok_field.specs.Sweeps.{GoesOn}
use Rattle.sok_field.proofs.sweep.step_rows.Given as goal

abbrev pub invariant-loop-r : goal.invariant-loop-r
invariant-loop-r l = (start : Spot → Bool) → IsSpreading l.free start l.initial.seen → GoesOn l.free start l.initial.seen l.seen false

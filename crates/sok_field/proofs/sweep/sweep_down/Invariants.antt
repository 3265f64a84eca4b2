use Rattle.std.proofs.Common.{Bool, ◌<◌, ◌-◌, false, length, get_or, ◌≡◌}
use Rattle.sok_rules.specs.declared.cell.Spot.{Spot}
use Rattle.sok_field.specs.Floods.{IsSpreading}
use Rattle.sok_field.specs.Sweeps.{GoesOn}
use Rattle.sok_field.proofs.sweep.sweep_down.Given as goal

abbrev pub invariant-loop-r : goal.invariant-loop-r
invariant-loop-r l = record {
  within : l.r < length l.initial.seen;
  above : l.above ≡ get_or l.seen l.r 0;
  goes_on : (start : Spot → Bool) → IsSpreading l.free start l.initial.seen → GoesOn l.free start l.initial.seen l.seen false;
}

abbrev pub decreases-loop-r : goal.decreases-loop-r
decreases-loop-r l = length l.initial.seen - l.r

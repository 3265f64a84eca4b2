use Rattle.std.proofs.Common.{◌<◌, ◌-◌, length, sum}
use Rattle.sok_field.specs.Fields.{has}
use Rattle.sok_field.specs.Floods.{IsSpreading}
use Rattle.sok_field.proofs.flood.sweep.Given as goal

abbrev pub invariant-loop-high : goal.invariant-loop-high
invariant-loop-high l = record {
  low : l.low < length l.fn.seen;
  high : l.high < length l.fn.seen;
  flooding : IsSpreading l.free (has l.initial.seen) l.seen;
}

abbrev pub decreases-loop-high : goal.decreases-loop-high
decreases-loop-high l = sum l.free - sum l.seen

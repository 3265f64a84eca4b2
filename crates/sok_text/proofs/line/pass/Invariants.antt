use Rattle.std.proofs.Common.{length}
use Rattle.sok_text.specs.Lines.{Passes}
use Rattle.sok_text.proofs.line.pass.Given as goal

abbrev pub invariant-loop-here : goal.invariant-loop-here
invariant-loop-here l = Passes l.kind l.fn.from.rest.now l.here.rest.now

abbrev pub decreases-loop-here : goal.decreases-loop-here
decreases-loop-here l = length l.here.rest.now

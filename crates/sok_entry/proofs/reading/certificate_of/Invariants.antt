use Rattle.std.proofs.Common.{length}
use Rattle.sok_entry.proofs.Reaching.{Reached}
use Rattle.sok_entry.proofs.reading.certificate_of.Given as goal

abbrev pub invariant-loop-line : goal.invariant-loop-line
invariant-loop-line l = Reached l.text l.stage l.entries.items l.lines l.rest

abbrev pub decreases-loop-line : goal.decreases-loop-line
decreases-loop-line l = length l.rest

use Rattle.std.proofs.Common.{◌+◌, ◌-◌, vec_len}
use Rattle.std.specs.Io.KnownBytes.{Consumes}
use Rattle.sok_engine.proofs.input.read_at_most.Given as goal

abbrev pub invariant-input : goal.invariant-input
invariant-input g l = Consumes (g.R.Read.remaining l.initial.reader) (g.R.Read.remaining l.reader) l.bytes.items

abbrev pub decreases-input : goal.decreases-input
decreases-input g l = l.limit + 1 - vec_len l.bytes

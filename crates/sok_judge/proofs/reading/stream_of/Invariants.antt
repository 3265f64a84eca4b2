use Rattle.std.proofs.Common.{◌-◌}
use Rattle.sok_judge.proofs.Streaming.{ReadSo}
use Rattle.sok_judge.proofs.reading.stream_of.Given as goal

abbrev pub invariant-input : goal.invariant-input
invariant-input g l = ReadSo (g.R.Read.remaining l.initial.reader) (g.R.Read.remaining l.reader) l.board l.stream l.total

abbrev pub decreases-input : goal.decreases-input
decreases-input g l = 268435457 - l.total

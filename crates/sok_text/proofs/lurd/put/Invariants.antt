use Rattle.std.proofs.Common.{◌≡◌, ◌++◌, replicate}
use Rattle.sok_text.proofs.lurd.put.Given as goal

abbrev pub invariant-loop-time : goal.invariant-loop-time
invariant-loop-time l = l.letters.items ≡ l.initial.letters.items ++ replicate l._time l.dir

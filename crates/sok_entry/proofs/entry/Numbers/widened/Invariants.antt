use Rattle.std.proofs.Common.{◌≡◌, take}
use Rattle.sok_entry.proofs.entry.Numbers.widened.Given as goal

abbrev pub invariant-loop-number : goal.invariant-loop-number
invariant-loop-number l = l.items.items ≡ take l.number-index l.numbers

use Rattle.std.proofs.Common.{◌≡◌, take}
use Rattle.sok_state.proofs.store.in_bits.Given as goal

abbrev pub invariant-loop-index : goal.invariant-loop-index
invariant-loop-index l = l.bits.entries ≡ take l.index l.lists.entries

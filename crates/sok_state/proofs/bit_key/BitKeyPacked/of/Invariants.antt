use Rattle.std.proofs.Common.{take}
use Rattle.sok_state.proofs.Packing.{IsPacked}
use Rattle.sok_state.proofs.bit_key.BitKeyPacked.of.Given as goal

abbrev pub invariant-loop-square : goal.invariant-loop-square
invariant-loop-square g l = IsPacked l.boxes (take l.square-index l.square-items)

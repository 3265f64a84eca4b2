use Rattle.std.proofs.Common.{◌-◌, ◌*◌, length}
use Rattle.sok_state.proofs.Unpacking.{IsUnpacked}
use Rattle.sok_state.proofs.bit_key.BitKeyPacked.boxes.Given as goal

abbrev pub invariant-loop-square : goal.invariant-loop-square
invariant-loop-square g l = IsUnpacked l.self.boxes l.left l.squares.items

abbrev pub decreases-loop-square : goal.decreases-loop-square
decreases-loop-square g l = 64 * length l.self.boxes - length l.squares.items

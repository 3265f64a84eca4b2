use Rattle.sok_state.proofs.ListKeys.{IsKept}
use Rattle.sok_state.proofs.list_key.ListKeyPacked.moved.Given as goal

abbrev pub invariant-loop-square : goal.invariant-loop-square
invariant-loop-square l = IsKept l.from l.to l.square-items l.square-index l.boxes.items l.below

use Rattle.std.proofs.Common.{ℕ, ◌≡◌, ◌≤◌, ◌<◌, ◌*◌, length}
use Rattle.sok_lift.specs.Numbers.{lift_in}
use Rattle.sok_lift.specs.Pairs.{IsFree}
use Rattle.sok_lift.proofs.Taking.{HasTaken}
use Rattle.sok_lift.proofs.raise.add_up.Given as goal

abbrev pub invariant-loop-one : goal.invariant-loop-one
invariant-loop-one l = record {
  has : HasTaken (lift_in l.lifts) l.player l.boxes l.free l.total;
  room : length l.free ≡ length l.boxes;
  few : l.total ≤ l.one * 255;
  later : (k : ℕ) → l.one ≤ k → k < length l.boxes → IsFree l.free k;
}

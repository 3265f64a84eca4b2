use Rattle.std.proofs.Common.{ℕ, ◌<◌, get_or}
use Rattle.sok_bar.specs.Fair.{IsFair}
use Rattle.sok_bar.proofs.bound.are_fair.Given as goal

abbrev pub invariant-loop-place : goal.invariant-loop-place
invariant-loop-place l = (k : ℕ) → k < l.place → IsFair l.distances.board (get_or l.boxes k 0) (get_or l.u k 0) l.v

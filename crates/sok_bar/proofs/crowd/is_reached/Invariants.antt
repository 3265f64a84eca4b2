use Rattle.std.proofs.Common.{ℕ, ◌<◌, get_or}
use Rattle.sok_bar.specs.Reached.{Reaches}
use Rattle.sok_bar.proofs.crowd.is_reached.Given as goal

abbrev pub invariant-loop-member : goal.invariant-loop-member
invariant-loop-member l = (k : ℕ) → k < l.member-index → Reaches l.distances.board (get_or l.boxes (get_or l.members k 0) 0) l.goal → ⊥

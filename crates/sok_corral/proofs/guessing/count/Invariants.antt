use Rattle.std.proofs.Common.{◌≤◌}
use Rattle.sok_corral.proofs.guessing.count.Given as goal

abbrev pub invariant-loop-push : goal.invariant-loop-push
invariant-loop-push l = l.count ≤ l.push-index

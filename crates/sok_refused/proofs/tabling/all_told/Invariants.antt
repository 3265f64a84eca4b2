use Rattle.std.proofs.Common.{◌≤◌}
use Rattle.sok_refused.proofs.tabling.all_told.Given as goal

abbrev pub invariant-loop-place : goal.invariant-loop-place
invariant-loop-place l = 64 ≤ l.table.room

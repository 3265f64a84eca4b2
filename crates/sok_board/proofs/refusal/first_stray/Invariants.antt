use Rattle.std.proofs.Common.{take}
use Rattle.sok_board.proofs.Refusals.{HasNoStray}
use Rattle.sok_board.proofs.refusal.first_stray.Given as goal

abbrev pub invariant-loop-place : goal.invariant-loop-place
invariant-loop-place l = HasNoStray l.level (take l.place-index l.spots)

use Rattle.sok_play.proofs.Playing.{IsPlayedTo}
use Rattle.sok_play.proofs.standing.session_after.Given as goal

abbrev pub invariant-loop-dir : goal.invariant-loop-dir
invariant-loop-dir l = IsPlayedTo l.level l.letters l.dir-index l.session

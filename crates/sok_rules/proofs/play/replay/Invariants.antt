use Rattle.std.proofs.Common.{◌≡◌, ◌≤◌, take, Some}
use Rattle.sok_rules.specs.Play.{start, run, pushes}
use Rattle.sok_rules.specs.Scene.{SameGround}
use Rattle.sok_rules.proofs.play.replay.Given as goal

abbrev pub invariant-loop-at : goal.invariant-loop-at
invariant-loop-at l = record {
  ground : SameGround l.level l.scene;
  ran : run l.level (start l.level) (take l.at l.dirs) ≡ Some (start l.scene);
  counted : l.pushes ≡ pushes l.level (start l.level) (take l.at l.dirs);
  few : l.pushes ≤ l.at;
}

use Rattle.std.proofs.Common.{◌≡◌, take, Some}
use Rattle.sok_rules.specs.Play.{start, run}
use Rattle.sok_rules.specs.Replay.{push_marks}
use Rattle.sok_rules.specs.Scene.{SameGround}
use Rattle.sok_rules.proofs.play.mark_pushes.Given as goal

abbrev pub invariant-loop-place : goal.invariant-loop-place
invariant-loop-place l = record {
  ground : SameGround l.level l.scene;
  ran : run l.level (start l.level) (take l.place l.dirs) ≡ Some (start l.scene);
  marked : l.marks.items ≡ push_marks l.level (start l.level) (take l.place l.dirs);
}

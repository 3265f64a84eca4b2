use Rattle.std.proofs.Common.{◌<◌, length}
use Rattle.sok_corral.specs.Fences.{IsFence}
use Rattle.sok_corral.specs.Fencing.{IsFenceScratch}
use Rattle.sok_corral.proofs.guessing.guess.Given as goal

abbrev pub invariant-loop-from : goal.invariant-loop-from
invariant-loop-from l = record {
  ready : IsFenceScratch l.setting.board.now l.scratch;
  fence : l.fewest < length l.pushes → IsFence l.setting.board.now l.key.least l.key.boxes l.scratch.best.items;
}

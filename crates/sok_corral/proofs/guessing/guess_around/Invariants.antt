use Rattle.std.proofs.Common.{◌≡◌}
use Rattle.sok_corral.specs.Fencing.{IsFenceScratch}
use Rattle.sok_corral.proofs.guessing.guess_around.Given as goal

abbrev pub invariant-rounds : goal.invariant-rounds
invariant-rounds l = record {
  ready : IsFenceScratch l.setting.board.now l.scratch;
  best : l.scratch.best ≡ l.initial.scratch.best;
}

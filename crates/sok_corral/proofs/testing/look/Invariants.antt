use Rattle.std.proofs.Common.{ℕ, ◌<◌, get_or}
use Rattle.sok_rules.specs.declared.cell.Dir.{Dir}
use Rattle.sok_rules.specs.declared.cell.Dir.TheVariants.{Left}
use Rattle.sok_region.specs.Layouts.{IsLaidOut}
use Rattle.sok_corral.specs.Fencing.{AreShutAlong}
use Rattle.sok_corral.proofs.Shutting.{dirs}
use Rattle.sok_corral.proofs.testing.look.Given as goal

abbrev pub invariant-loop-from : goal.invariant-loop-from
invariant-loop-from l = record {
  laid : IsLaidOut l.setting.board.now l.lone.boxes.items l.layout;
  shut : (k : ℕ) → k < l.from-index → (d : Dir) → AreShutAlong l.setting.board.now l.scene l.lone (get_or l.from-items k 0) d;
}

abbrev pub invariant-loop-dir : goal.invariant-loop-dir
invariant-loop-dir l = record {
  laid : IsLaidOut l.setting.board.now l.lone.boxes.items l.layout;
  shut : (k : ℕ) → k < l.dir-index → AreShutAlong l.setting.board.now l.scene l.lone l.from (get_or dirs k Left);
}

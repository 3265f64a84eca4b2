use Rattle.std.proofs.Common.{take}
use Rattle.sok_closed.specs.Fine.{AreEntered, IsOfBoard}
use Rattle.sok_state.specs.Normalizers.{Normalizes}
use Rattle.sok_bar.specs.Patterns.{IsBarredAlone, inner_node}
use Rattle.sok_bar.proofs.alone.enter_all.Given as goal

abbrev pub invariant-loop-one : goal.invariant-loop-one
invariant-loop-one l = record {
  entered : AreEntered inner_node l.setting.board.now l.count (IsBarredAlone l.setting.board.now) (take l.one-index l.inner) l.roll;
  of_board : IsOfBoard l.setting.board.now l.roll;
  normalizes : Normalizes l.setting.board.now l.normalizer;
}

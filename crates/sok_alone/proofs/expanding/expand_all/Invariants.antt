use Rattle.std.proofs.Common.{◌≤◌, ◌-◌, length}
use Rattle.sok_closed.specs.Lookup.{AreFollowed}
use Rattle.sok_alone.specs.Known.{IsKnown, roll_of}
use Rattle.sok_alone.specs.Meeting.{Grows}
use Rattle.sok_alone.specs.Workspace.{IsWorkspace}
use Rattle.sok_alone.proofs.expanding.expand_all.Given as goal

abbrev pub ghost-expand : goal.ghost-expand
ghost-expand g a = g.start

abbrev pub invariant-loop-index : goal.invariant-loop-index
invariant-loop-index g l = record {
  known : IsKnown l.setting.board.now g.start l.limit l.known;
  grows : Grows l.initial.known l.known;
  followed : AreFollowed l.setting.board.now (roll_of l.known) l.index;
  within : l.index ≤ length l.known.inner.items;
  workspace : IsWorkspace l.setting.board.now l.workspace;
}

abbrev pub decreases-loop-index : goal.decreases-loop-index
decreases-loop-index g l = l.limit - l.index

use Rattle.std.proofs.Common.{All}
use Rattle.sok_state.specs.Pushes.{IsLegal, IsOpened}
use Rattle.sok_alone.specs.Known.{IsReached}
use Rattle.sok_alone.specs.Workspace.{IsWorkspace}
use Rattle.sok_alone.proofs.probing.are_soon_solved.Given as goal

abbrev pub invariant-loop : goal.invariant-loop
invariant-loop l = record {
  reached : IsReached l.setting.board.now l.start l.key;
  opened : IsOpened l.setting.board.now l.key l.workspace.expansion.scene;
  legal : All (IsLegal l.setting.board.now l.key) l.workspace.expansion.pushes.items;
  workspace : IsWorkspace l.setting.board.now l.workspace;
}

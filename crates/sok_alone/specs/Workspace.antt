-- Buffers that searches of some boxes alone reuse.
use Rattle.std.specs.Prelude.{ℕ, List}
use Rattle.sok_board.specs.Area.{BoardView, IsAccepted}
use Rattle.sok_region.specs.Layouts.{IsLaidOut}
use Rattle.sok_state.specs.Normalizers.{Normalizes}
use Rattle.sok_alone.specs.declared.workspace.Workspace.{Workspace}

-- the workspace of an accepted board; some boxes are laid out in it
pub record IsWorkspace (b : BoardView) (workspace : Workspace) : Type 0 where
  pub accepted : IsAccepted b
  pub normalizes : Normalizes b workspace.normalizer
  pub boxes : List ℕ
  pub laid : IsLaidOut b boxes workspace.expansion.scene.layout

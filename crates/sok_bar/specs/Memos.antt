-- A memo of lists of positions that were found closed.
use Rattle.std.specs.Prelude.{All}
use Rattle.sok_board.specs.Area.{BoardView}
use Rattle.sok_bar.specs.declared.memo.Kept.{Kept}
use Rattle.sok_bar.specs.declared.memo.Memo.{Memo}
use Rattle.sok_bar.specs.Patterns.{AreClosedAlone}

-- the positions of a kept list are closed from its state
abbrev pub IsClosedKept : BoardView → Kept → Type 0
IsClosedKept b kept = AreClosedAlone b kept.key.least kept.key.boxes kept.inner

-- this is true of each list of a memo
pub record KeepsClosed (b : BoardView) (memo : Memo) : Type 0 where
  pub each : All (IsClosedKept b) memo.lists.items

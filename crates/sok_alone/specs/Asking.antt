-- What is asked about a push, and what is answered.
use Rattle.std.specs.Prelude.{ℕ, ◌≡◌, Option}
use Rattle.sok_board.specs.BoxSets.{put_in_order}
use Rattle.sok_alone.specs.declared.asking.Asking.{Asking}
use Rattle.sok_alone.specs.declared.losses.Losses.{Losses}
use Rattle.sok_alone.specs.Losses.{ArePushed, KeepsLosses, TellsLoss}

-- the push leads to a free square; the distances and the losses are those of the board
pub record MayAsk (asking : Asking) (kept : Losses) : Type 0 where
  pub distances : asking.distances.now.board ≡ asking.board.now
  pub pushed : ArePushed asking.board.now asking.boxes.now asking.from asking.to
  pub losses : KeepsLosses asking.board.now kept

-- the old losses keep their indices; if an index is returned, the loss there shows that no solution follows the push
abbrev pub TellsAsked : Asking → Losses → Losses → Option ℕ → Type 0
TellsAsked asking old new found = TellsLoss asking.board.now asking.from (put_in_order asking.from asking.to asking.boxes.now) old new found

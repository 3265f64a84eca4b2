-- Whether a new state of some boxes alone is solved, barred or to be expanded.
use Rattle.std.specs.Prelude.{ℕ, ◌≡◌, List, false}
use Rattle.sok_rules.specs.Play.{AllOnGoals}
use Rattle.sok_board.specs.Area.{BoardView}
use Rattle.sok_closed.specs.Fine.{IsReasoned}
use Rattle.sok_entry.specs.Text.{FitsInner}
use Rattle.sok_entry.specs.declared.entry.InnerReason.{InnerReason}
use Rattle.sok_state.specs.declared.key.Key.{Key}
use Rattle.sok_bar.specs.Patterns.{BarsAlone, IsBarredAlone, inner_node, is_expanded}
use Rattle.sok_alone.specs.declared.judging.Judged.{Judged}
use Rattle.sok_alone.specs.declared.judging.Judged.TheVariants.{Solved, Stands}
use Rattle.sok_state.specs.Keys.{key_position}
use Rattle.sok_alone.specs.Known.{inner_at}

-- a reason that bars these boxes alone on the board
pub record IsBarring (b : BoardView) (boxes : List ℕ) (reason : InnerReason) : Type 0 where
  pub other : is_expanded reason ≡ false
  pub bars : BarsAlone b boxes reason

-- the position of the state may be in a closed list, for this reason
pub record MayStand (b : BoardView) (key : Key) (reason : InnerReason) : Type 0 where
  pub reasoned : IsReasoned inner_node b (IsBarredAlone b) (inner_at key reason)
  pub fits : FitsInner (inner_at key reason)

abbrev pub TellsJudged : BoardView → Key → Judged → Type 0
TellsJudged b key Solved = AllOnGoals b.rows (key_position b key)
TellsJudged b key (Stands reason) = MayStand b key reason

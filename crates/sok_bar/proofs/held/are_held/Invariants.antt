use Rattle.std.proofs.Common.{ℕ, ◌<◌, get_or}
use Rattle.sok_price.specs.Prices.{IsMember}
use Rattle.sok_bar.specs.Jam.{IsHeld}
use Rattle.sok_bar.proofs.held.are_held.Given as goal

abbrev pub invariant-loop-member : goal.invariant-loop-member
invariant-loop-member l = (k : ℕ) → k < l.member-index → IsHeld l.setting.board.now (IsMember l.boxes l.members) (get_or l.boxes (get_or l.members k 0) 0)

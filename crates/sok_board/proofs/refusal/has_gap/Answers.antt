use Rattle.sok_board.specs.Refusals.{has_gap}
use Rattle.sok_board.proofs.refusal.has_gap.Goals as goal

pub returns : goal.returns
unfolding has_gap
returns c = c.has_gap_among.ensures

use Rattle.sok_board.proofs.Confined.{confines-play, keeps-decorations}
use Rattle.sok_board.proofs.law.play_is_confined.Goals as goal

pub returns-clause-confined : goal.returns-clause-confined
returns-clause-confined c = confines-play

pub returns-clause-decorations : goal.returns-clause-decorations
returns-clause-decorations c = keeps-decorations

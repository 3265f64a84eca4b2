use Rattle.sok_play.proofs.Shown.{drawings-stand}
use Rattle.sok_play.proofs.drawing.drawings_stand.Goals as goal

pub returns : goal.returns
returns c = drawings-stand

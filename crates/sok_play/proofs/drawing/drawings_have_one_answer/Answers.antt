use Rattle.sok_engine.proofs.Unique.{Within-one}
use Rattle.sok_play.proofs.OnePlay.{IsDrawing-one}
use Rattle.sok_play.proofs.drawing.drawings_have_one_answer.Goals as goal

pub returns : goal.returns
returns c limit n text = Within-one limit _ (IsDrawing-one n text)

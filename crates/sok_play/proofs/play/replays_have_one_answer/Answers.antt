use Rattle.sok_engine.proofs.Unique.{Within-one}
use Rattle.sok_play.proofs.OnePlay.{IsReplay-one}
use Rattle.sok_play.proofs.play.replays_have_one_answer.Goals as goal

pub returns : goal.returns
returns c limit n text = Within-one limit _ (IsReplay-one n text)

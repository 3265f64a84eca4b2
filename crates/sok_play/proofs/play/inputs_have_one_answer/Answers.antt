use Rattle.sok_engine.proofs.Unique.{Within-one}
use Rattle.sok_text.specs.Lines.{first_line, after_line}
use Rattle.sok_play.proofs.OnePlay.{IsReplay-one}
use Rattle.sok_play.proofs.play.inputs_have_one_answer.Goals as goal

pub returns : goal.returns
returns c limit = Within-one limit _ (λ bytes. IsReplay-one 1 (first_line bytes) (after_line bytes))

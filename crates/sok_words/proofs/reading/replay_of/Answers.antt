use Rattle.std.proofs.Common.{refl}
use Rattle.sok_words.specs.Forms.{replay}
use Rattle.sok_words.proofs.Forms.{another, refuses}
use Rattle.sok_words.proofs.reading.replay_of.Goals as goal

pub returns-in_err-file : goal.returns-in_err-file
returns-in_err-file c (replay file number text) has =
    refuses (replay file number text) _ _ c.from_residual.ensures.1 (c.in_err-file.ensures.memory file number _ has.1 has.2)
returns-in_err-file c _ has = absurd (another _ _ has.0 refl refl)

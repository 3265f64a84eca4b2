use Rattle.std.proofs.Common.{refl}
use Rattle.sok_words.specs.Forms.{draw}
use Rattle.sok_words.proofs.Forms.{another, given_or_none, refuses}
use Rattle.sok_words.proofs.reading.draw_of.Goals as goal

pub returns-in_err-file : goal.returns-in_err-file
returns-in_err-file c (draw file number text) has =
    refuses (draw file number text) _ _ c.from_residual.ensures.1 (c.in_err-file.ensures.memory file number _ has.1 has.2)
returns-in_err-file c _ has = absurd (another _ _ has.0 refl refl)

pub returns-in_err-text : goal.returns-in_err-text
returns-in_err-text c = λ form has. refuses form _ _ c.from_residual-in_err-text.ensures.1 (c.in_err-text.ensures _ refl)

pub returns : goal.returns
returns c (draw file number text) has = (
  c.in_ok-file.ensures.file file has.1,
  c.in_ok-file.ensures.number number _ has.2,
  given_or_none _ _ _ _ c.new.ensures.bytes (c.in_ok-text.ensures text has.3) c.unwrap_or.ensures,
)
returns c _ has = absurd (another _ _ has.0 refl refl)

use Rattle.std.proofs.Common.{refl}
use Rattle.sok_words.specs.Forms.{solve}
use Rattle.sok_words.proofs.Forms.{another, refuses}
use Rattle.sok_words.proofs.reading.solve_of.Goals as goal

pub returns-in_err-file : goal.returns-in_err-file
returns-in_err-file c (solve file number below limit bound cert) has =
    refuses (solve file number below limit bound cert) _ _ c.from_residual.ensures.1 (c.in_err-file.ensures.memory file number _ has.1 has.2)
returns-in_err-file c _ has = absurd (another _ _ has.0 refl refl)

pub returns-in_err-path : goal.returns-in_err-path
returns-in_err-path c = λ form has. refuses form _ _ c.from_residual-in_err-path.ensures.1 (c.in_err-path.ensures _ refl)

pub returns : goal.returns
returns c (solve file number below limit bound cert) has = (
  c.in_ok-file.ensures.file file has.1,
  c.in_ok-file.ensures.number number _ has.2,
  c.optional_number_of-below.ensures below has.3,
  c.in_ok-limit.ensures _ _ has.4,
  c.flag_of-bound.ensures bound has.5,
  c.in_ok-path.ensures cert has.6,
)
returns c _ has = absurd (another _ _ has.0 refl refl)

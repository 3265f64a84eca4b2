use Rattle.std.proofs.Common.{refl}
use Rattle.sok_words.specs.Forms.{prove}
use Rattle.sok_words.proofs.Forms.{another, refuses}
use Rattle.sok_words.proofs.reading.prove_of.Goals as goal

pub returns-in_err-db : goal.returns-in_err-db
returns-in_err-db c (prove db id cert) has =
    refuses (prove db id cert) _ _ c.from_residual.ensures.1 (c.in_err-db.ensures.memory db id has.1 has.2)
returns-in_err-db c _ has = absurd (another _ _ has.0 refl refl)

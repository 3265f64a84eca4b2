use Rattle.std.proofs.Common.{refl}
use Rattle.sok_words.specs.Forms.{offer}
use Rattle.sok_words.proofs.Forms.{another, refuses}
use Rattle.sok_words.proofs.reading.offer_of.Goals as goal

pub returns-in_err-db : goal.returns-in_err-db
returns-in_err-db c (offer db id text) has =
    refuses (offer db id text) _ _ c.from_residual.ensures.1 (c.in_err-db.ensures.memory db id has.1 has.2)
returns-in_err-db c _ has = absurd (another _ _ has.0 refl refl)

use Rattle.std.proofs.Common.{Some}
use Rattle.sok_words.proofs.Getters.{id_read}
use Rattle.sok_words.proofs.values.id_of.Goals as goal

pub returns-in-Some : goal.returns-in-Some
returns-in-Some c = λ digits has. let read = c.in-Some.ensures (Some digits) has in id_read digits c.in-Some.id has.0 (cc)

pub returns-in-None : goal.returns-in-None
returns-in-None c = λ digits has. let read = c.in-None.ensures (Some digits) has in cc

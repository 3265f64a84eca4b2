use Rattle.sok_entry.proofs.Readings.{Spells-one, GoesWrong-one, Spells-GoesWrong}
use Rattle.sok_entry.proofs.law.texts_have_one_reading.Goals as goal

pub returns : goal.returns
returns c = record { spelled = Spells-one; wrong = GoesWrong-one; apart = Spells-GoesWrong }

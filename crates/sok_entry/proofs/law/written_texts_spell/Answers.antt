use Rattle.sok_entry.proofs.Printable.{Spells-text_of}
use Rattle.sok_entry.proofs.law.written_texts_spell.Goals as goal

pub returns : goal.returns
returns c = Spells-text_of

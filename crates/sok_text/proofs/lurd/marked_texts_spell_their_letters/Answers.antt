use Rattle.sok_text.proofs.Marked.{marked-texts-spell}
use Rattle.sok_text.proofs.lurd.marked_texts_spell_their_letters.Goals as goal

pub returns : goal.returns
returns c = marked-texts-spell

use Rattle.sok_text.proofs.Plain.{texts-read-plain}
use Rattle.sok_text.proofs.collection.texts_without_bars_read_as_before.Goals as goal

pub returns : goal.returns
returns c = texts-read-plain

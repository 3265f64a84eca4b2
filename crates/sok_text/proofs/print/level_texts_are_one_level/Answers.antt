use Rattle.sok_text.proofs.Canonical.{texts-are-one-level}
use Rattle.sok_text.proofs.print.level_texts_are_one_level.Goals as goal

pub returns : goal.returns
returns c = texts-are-one-level

use Rattle.sok_text.proofs.Letters.{Spells-one}
use Rattle.sok_store.proofs.Parsed.{letters_unread}
use Rattle.sok_store.proofs.parsing.letters_in.Goals as goal

pub returns-in-Ok : goal.returns-in-Ok
returns-in-Ok c letters spelled = Spells-one c.args.text.now c.in-Ok.letters.items letters c.in-Ok.ensures spelled

pub returns-in_default : goal.returns-in_default
returns-in_default c letters spelled = absurd (letters_unread c.args.text.now letters c.in-Err.fault c.in_default.not-Memory c.in-Err.ensures spelled)

use Rattle.std.proofs.Common.{ap, Some}
use Rattle.sok_store.proofs.Parsed.{level_read, level_unread}
use Rattle.sok_store.proofs.parsing.level_in.Goals as goal

pub returns-in-Ok : goal.returns-in-Ok
returns-in-Ok c rows level same = ap Some (level_read c.args.text.now c.first_level.result c.first_level.ensures rows level same c.in-Ok.level c.in-Ok.is)

pub returns-in_default : goal.returns-in_default
returns-in_default c rows level same =
    absurd (level_unread c.args.text.now c.first_level.result c.first_level.ensures rows level same c.in-Err.fault c.in_default.not-Memory c.in-Err.is)

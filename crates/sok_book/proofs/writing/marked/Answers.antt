use Rattle.std.proofs.Common.{◌∙◌}
use Rattle.sok_book.proofs.Lurd.{lurd_of-front}
use Rattle.sok_book.proofs.writing.marked.Goals as goal

pub returns-in-Ok-print_lurd : goal.returns-in-Ok-print_lurd
returns-in-Ok-print_lurd c =
    c.in-Ok-print_lurd.ensures.is
    ∙ lurd_of-front c.args.level.now c.args.letters.now c.in-Err-Blocked.at (rw c.in-Err-Blocked.field-0-is at c.in-Err-Blocked.ensures)

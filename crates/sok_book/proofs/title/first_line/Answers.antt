use Rattle.std.proofs.Common.{sym, ◌∙◌}
use Rattle.sok_book.proofs.Titles.{first_line-none, first_line-some}
use Rattle.sok_book.proofs.title.first_line.Goals as goal

pub returns-in-Some : goal.returns-in-Some
returns-in-Some c = first_line-some c.args.text.now c.in-Some.end (sym c.line_end.ensures ∙ c.in-Some.is)

pub returns-in-None : goal.returns-in-None
returns-in-None c = first_line-none c.args.text.now (sym c.line_end.ensures ∙ c.in-None.is)

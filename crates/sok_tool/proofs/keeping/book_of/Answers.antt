use Rattle.std.proofs.Common.{rules}
use Rattle.sok_tool.proofs.keeping.book_of.Goals as goal

pub returns-in_err-found : goal.returns-in_err-found
returns-in_err-found g c = search rules

pub returns : goal.returns
returns g c = search rules

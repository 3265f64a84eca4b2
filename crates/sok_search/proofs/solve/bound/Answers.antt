use Rattle.std.proofs.Common.{rules}
use Rattle.sok_search.proofs.solve.bound.Goals as goal

pub returns : goal.returns
returns c = search rules

use Rattle.std.proofs.Common.{rules}
use Rattle.sok_store.proofs.columns.are_of.Goals as goal

pub returns : goal.returns
returns c = search rules

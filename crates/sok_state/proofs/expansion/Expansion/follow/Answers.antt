use Rattle.std.proofs.Common.{rules}
use Rattle.sok_state.proofs.expansion.Expansion.follow.Goals as goal

pub returns : goal.returns
returns c = search rules

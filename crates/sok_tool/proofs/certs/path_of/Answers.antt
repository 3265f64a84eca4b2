use Rattle.std.proofs.Common.{rules}
use Rattle.sok_tool.proofs.certs.path_of.Goals as goal

pub returns : goal.returns
returns c = search rules

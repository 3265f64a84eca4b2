use Rattle.sok_field.proofs.Parts.{join-exact}
use Rattle.sok_field.proofs.spans.join.Goals as goal

pub returns : goal.returns
returns c = join-exact c.args.rows.now c.args.row c.args.word c.requires

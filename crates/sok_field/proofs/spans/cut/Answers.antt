use Rattle.sok_field.proofs.Parts.{cut-exact}
use Rattle.sok_field.proofs.spans.cut.Goals as goal

pub returns : goal.returns
returns c = λ k. cut-exact c.args.rows.now c.args.span c.ones.result k c.ones.ensures

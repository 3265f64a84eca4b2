use Rattle.sok_field.proofs.Parts.{ones-exact}
use Rattle.sok_field.proofs.spans.ones.Goals as goal

pub returns : goal.returns
returns c = λ k. ones-exact c.args.length k c.requires.some c.requires.within

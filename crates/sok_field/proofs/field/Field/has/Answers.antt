use Rattle.std.proofs.Common.{◌∙◌, refl}
use Rattle.sok_field.proofs.field.Field.has.Goals as goal

pub returns : goal.returns
returns c = c.has.ensures ∙ c.half.ensures c.args.spot refl

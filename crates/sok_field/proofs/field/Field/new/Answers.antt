use Rattle.sok_field.proofs.Halves.{none-halves}
use Rattle.sok_field.proofs.field.Field.new.Goals as goal

pub returns : goal.returns
returns c = none-halves c.new.result c.new-2.result c.new.ensures c.new-2.ensures

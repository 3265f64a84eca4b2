use Rattle.sok_field.proofs.Halves.{none-halves}
use Rattle.sok_field.proofs.field.Field.clear.Goals as goal

pub returns : goal.returns
returns c = none-halves c.clear.new.self c.clear-2.new.self c.clear.ensures c.clear-2.ensures

use Rattle.sok_field.proofs.Drawings.{in_field}
use Rattle.sok_state.proofs.around.parts_nothing.Goals as goal

pub has-requires : goal.has-requires
has-requires c = (in_field c.args.board.now c.requires.accepted c.args.to c.requires.to _ c.spot.ensures.spot).1

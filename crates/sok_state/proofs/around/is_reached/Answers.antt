use Rattle.sok_field.proofs.Drawings.{in_field}
use Rattle.sok_state.proofs.around.is_reached.Goals as goal

pub has-requires : goal.has-requires
has-requires c = (in_field c.args.board.now c.requires.accepted c.in-Some.beside c.in-Some.ensures.within _ c.spot.ensures.spot).1

use Rattle.sok_field.proofs.Drawings.{in_field}
use Rattle.sok_state.proofs.around.free_beside.Goals as goal

pub has-requires : goal.has-requires
has-requires c = (in_field c.args.board.now c.requires.accepted c.in_ok-beside.beside c.in_ok-beside.ensures.exists _ c.spot.ensures.spot).1

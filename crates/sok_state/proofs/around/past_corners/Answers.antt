use Rattle.sok_field.proofs.Trails.{Leads-more}
use Rattle.sok_state.specs.Around.{among}
use Rattle.sok_state.proofs.Surroundings.{Leads-beside}
use Rattle.sok_state.proofs.around.past_corners.Goals as goal

pub returns : goal.returns
returns c =
    let b = c.args.board.now in
    let corner = c.in_ok-corner.ensures in
    Leads-beside b c.args.free.now c.args.push.from c.in_ok-corner.corner c.opposite.result c.free_beside-2.result
    (Leads-more b (among b c.args.free.now) c.args.push.from c.in_ok-beside.beside c.in_ok-corner.corner c.args.push.dir c.in_ok-beside.ensures.leads
    corner.is corner.has) c.free_beside-2.ensures

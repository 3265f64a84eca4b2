use Rattle.sok_field.proofs.Trails.{Leads-more, Leads-start}
use Rattle.sok_state.specs.Around.{among}
use Rattle.sok_state.proofs.Surroundings.{Leads-beside}
use Rattle.sok_state.proofs.around.past_corner.Goals as goal

pub returns-clause-leads : goal.returns-clause-leads
returns-clause-leads c =
    let corner = c.in_ok-corner.ensures in
    Leads-beside c.args.board.now c.args.free.now c.args.push.from c.in_ok-corner.corner c.args.push.dir c.free_beside-2.result
    (Leads-more c.args.board.now (among c.args.board.now c.args.free.now) c.args.push.from c.args.push.from c.in_ok-corner.corner c.args.side
    (Leads-start c.args.board.now (among c.args.board.now c.args.free.now) c.args.push.from) corner.is corner.has) c.free_beside-2.ensures

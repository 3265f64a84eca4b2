use Rattle.std.proofs.Common.{Err, Ok}
use Rattle.sok_bar.proofs.Rising.{found}
use Rattle.sok_alone.proofs.finding.place_of.Goals as goal

pub unreachable-requires : goal.unreachable-requires
unreachable-requires c =
    found c.args.boxes.now c.args.square (Err c.in-Err.field-0) c.requires.rising c.in-Err.ensures.position c.requires.among

pub returns : goal.returns
returns c = found c.args.boxes.now c.args.square (Ok c.in-Ok.place) c.requires.rising c.in-Ok.ensures.position

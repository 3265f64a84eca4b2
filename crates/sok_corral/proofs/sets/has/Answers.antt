use Rattle.std.proofs.Common.{ap, ◌∙◌}
use Rattle.sok_field.specs.Fields.{has}
use Rattle.sok_field.proofs.Drawings.{in_field}
use Rattle.sok_corral.proofs.sets.has.Goals as goal

pub has-requires : goal.has-requires
has-requires c = (in_field c.args.board.now c.requires.accepted c.args.square c.requires.exists _ c.spot.ensures.spot).1

pub returns : goal.returns
returns c = c.has.ensures ∙ ap (has c.args.set.now) c.spot.ensures.spot

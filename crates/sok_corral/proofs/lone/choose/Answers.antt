use Rattle.std.proofs.Common.{◌∙◌, ap, filter}
use Rattle.std.proofs.lemmas.List.{take_all}
use Rattle.sok_corral.specs.Fencing.{is_in}
use Rattle.sok_corral.proofs.lone.choose.Goals as goal

pub returns : goal.returns
returns c = c.loop-square.invariant ∙ ap (filter (is_in c.args.board.now c.args.set.now)) (take_all c.loop-square.square-index c.args.boxes.now c.loop-square-test.false)

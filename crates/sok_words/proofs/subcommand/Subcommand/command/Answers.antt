use Rattle.std.proofs.Common.{arith}
use Rattle.sok_words.proofs.Building.{adds_rule, all_of_them, one_more}
use Rattle.sok_words.proofs.subcommand.Subcommand.command.Goals as goal

pub loop-place-preserved : goal.loop-place-preserved
loop-place-preserved c =
    one_more _ _ c.args.self.now.places.now c.loop-place.place-index _ c.in_ok-command.command (omega arith)
    (adds_rule _ _ _ _ _ c.loop-place.invariant c.arg.ensures c.in_ok-command.ensures)

pub returns : goal.returns
returns c = all_of_them _ _ c.args.self.now.places.now c.loop-place.place-index c.loop-place.command c.loop-place-test.false c.loop-place.invariant

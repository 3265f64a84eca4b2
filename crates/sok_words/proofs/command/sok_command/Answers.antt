use Rattle.std.proofs.Common.{arith}
use Rattle.sok_words.proofs.Building.{adds_subcommand, all_of_them, one_more}
use Rattle.sok_words.proofs.command.sok_command.Goals as goal

pub loop-subcommand-preserved : goal.loop-subcommand-preserved
loop-subcommand-preserved c =
    one_more _ _ c.subcommands.result c.loop-subcommand.subcommand-index _ c.in_ok-command.command (omega arith)
    (adds_subcommand _ _ _ _ _ c.loop-subcommand.invariant c.in_ok-own.ensures c.in_ok-command.ensures)

pub returns : goal.returns
returns c =
    rw c.subcommands.ensures at
    (all_of_them _ _ c.subcommands.result c.loop-subcommand.subcommand-index c.loop-subcommand.command (omega arith) c.loop-subcommand.invariant)

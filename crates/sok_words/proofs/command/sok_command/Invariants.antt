use Rattle.std.proofs.Common.{take}
use Rattle.std.specs.List.{fold}
use Rattle.sok_words.specs.Shapes.{Builds, sok_top, with_own}
use Rattle.sok_words.proofs.command.sok_command.Given as goal

abbrev pub invariant-loop-subcommand : goal.invariant-loop-subcommand
invariant-loop-subcommand l = Builds (fold with_own sok_top (take l.subcommand-index l.subcommand-items)) l.command

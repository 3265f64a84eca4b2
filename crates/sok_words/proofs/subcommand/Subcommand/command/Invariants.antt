use Rattle.std.proofs.Common.{take}
use Rattle.sok_words.specs.Shapes.{Builds, own_app}
use Rattle.sok_words.proofs.subcommand.Subcommand.command.Given as goal

abbrev pub invariant-loop-place : goal.invariant-loop-place
invariant-loop-place l = Builds (own_app l.self.name.now (take l.place-index l.self.places.now)) l.command

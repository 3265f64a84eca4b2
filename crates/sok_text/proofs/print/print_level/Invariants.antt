use Rattle.std.proofs.Common.{◌≡◌, take}
use Rattle.sok_text.specs.Canonical.{level_text}
use Rattle.sok_text.proofs.print.print_level.Given as goal

abbrev pub invariant-loop-row : goal.invariant-loop-row
invariant-loop-row l = l.text.items ≡ level_text (take l.row-index l.fn.level)

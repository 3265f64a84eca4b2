use Rattle.std.proofs.Common.{◌≡◌, take}
use Rattle.sok_rules.specs.Play.{start}
use Rattle.sok_text.specs.Marked.{marked_text}
use Rattle.sok_text.proofs.lurd.print_lurd.Given as goal

abbrev pub invariant-loop-at : goal.invariant-loop-at
invariant-loop-at l = l.text.items ≡ marked_text l.level (start l.level) (take l.at l.dirs)

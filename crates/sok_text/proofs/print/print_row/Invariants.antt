use Rattle.std.proofs.Common.{◌≡◌, ◌++◌, take}
use Rattle.sok_text.specs.Canonical.{row_text}
use Rattle.sok_text.proofs.print.print_row.Given as goal

abbrev pub invariant-loop-cell : goal.invariant-loop-cell
invariant-loop-cell l = l.text.items ≡ l.initial.text.items ++ row_text (take l.cell-index l.row)

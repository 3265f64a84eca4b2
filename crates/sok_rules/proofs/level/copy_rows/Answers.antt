use Rattle.std.proofs.Common.{ap, ◌∙◌, arith}
use Rattle.sok_rules.specs.Levels.{cells_of}
use Rattle.sok_rules.proofs.Rows.{cells_of_copied_more}
use Rattle.sok_rules.proofs.level.copy_rows.Goals as goal

pub loop-row-preserved : goal.loop-row-preserved
loop-row-preserved c =
    ap cells_of c.in_ok-push.ensures.items
    ∙ cells_of_copied_more c.args.rows.now c.loop-row.copy.items c.loop-row.row-index c.row-item.result c.in_ok-from_slice.field-0 (omega arith)
    c.loop-row.invariant c.row-item.is (c.in_ok-from_slice.ensures.items ∙ c.deref.ensures.value)

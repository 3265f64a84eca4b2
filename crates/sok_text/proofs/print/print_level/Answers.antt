use Rattle.std.proofs.Common.{◌++◌, ◌∷◌, [], ◌∙◌, ap, arith}
use Rattle.sok_text.specs.Canonical.{row_text}
use Rattle.sok_text.proofs.Canonical.{printed-take_all, printed-take_more}
use Rattle.sok_text.proofs.print.print_level.Goals as goal

pub loop-row-preserved : goal.loop-row-preserved
loop-row-preserved c =
    c.in_ok-push.ensures.items
    ∙ ap (λ text. text ++ 10 ∷ []) (c.in_ok-print_row.ensures ∙ (λ i. c.loop-row.invariant i ++ row_text (c.deref.ensures.value i)))
    ∙ printed-take_more c.args.level.now c.rows-row-items.result.now c.loop-row.row-index c.row-item.result c.rows-row-items.ensures.cells
    (omega arith) c.row-item.is

pub returns : goal.returns
returns c =
    c.loop-row.invariant ∙ printed-take_all c.args.level.now c.rows-row-items.result.now c.loop-row.row-index c.rows-row-items.ensures.cells (omega arith)

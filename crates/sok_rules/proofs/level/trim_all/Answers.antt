use Rattle.std.proofs.Common.{ap, sym, ◌∙◌, arith, length, ◌<◌}
use Rattle.std.proofs.lemmas.List.{length-map}
use Rattle.sok_rules.specs.Levels.{cells_of, trimmed}
use Rattle.sok_rules.proofs.Rows.{cells_of_trimmed_more, cells_of_trimmed_all}
use Rattle.sok_rules.proofs.level.trim_all.Goals as goal

pub loop-row-preserved : goal.loop-row-preserved
loop-row-preserved c =
    let old = cells_of c.args.rows.items in
    let within : c.loop-row.row-index < length old =
    omega (arith, length-map c.args.rows.items (λ row. row.items), ap length c.deref_mut-row-items.ensures.value) in
    cells_of_trimmed_more old c.loop-row.row-items c.loop-row.row-index c.row-item.result c.trim.new.row within c.loop-row.invariant c.row-item.is
    (c.trim.ensures ∙ ap (λ row. trimmed row.items) (sym c.row-item.is))

pub returns : goal.returns
returns c =
    let same = ap length c.deref_mut-row-items.ensures.value in
    cells_of_trimmed_all c.args.rows.items c.loop-row.row-items c.args.rows.len c.loop-row.row-index (omega arith) (omega arith)
    (omega arith) c.loop-row.invariant

use Rattle.std.proofs.Common.{arith}
use Rattle.sok_field.specs.Fields.{has}
use Rattle.sok_field.proofs.Flooding.{IsSpreading-begun, flood-exact, has-from_within, reaches-on}
use Rattle.sok_field.proofs.flood.flood_rows.Goals as goal

pub sweep-requires : goal.sweep-requires
sweep-requires c =
    let free = c.args.free.now in
    let start = c.args.seen.now in
    let flood = (c.step_rows.ensures (has start) (IsSpreading-begun free start c.requires.whole c.requires.inside)).flooding in
    let whole = flood.whole in
    record {
      whole = flood.whole;
      rows = c.requires.rows;
      inside = has-from_within c.step_rows.new.seen free flood.inside;
      first = omega arith;
      last = omega arith;
    }

pub returns-clause-reaches : goal.returns-clause-reaches
returns-clause-reaches c =
    let free = c.args.free.now in
    let start = c.args.seen.now in
    let flood = (c.step_rows.ensures (has start) (IsSpreading-begun free start c.requires.whole c.requires.inside)).flooding in
    reaches-on free (has start) c.step_rows.new.seen c.sweep.new.seen flood c.sweep.ensures.reaches

pub returns-then-columns-eq0-clause-reaches : goal.returns-then-columns-eq0-clause-reaches
returns-then-columns-eq0-clause-reaches c =
    let free = c.args.free.now in
    let start = c.args.seen.now in
    flood-exact free start (has start) (λ r. (c.type_inv.free r).fits) (c.requires.closed c.if-columns-eq0.true)
    (IsSpreading-begun free start c.requires.whole c.requires.inside)

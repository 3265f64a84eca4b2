use Rattle.std.proofs.Common.{inl, refl, arith, get_or}
use Rattle.sok_field.specs.Fields.{has}
use Rattle.sok_field.proofs.Flooding.{IsSpreading-one, has-from_within, reaches-on, reaches-one}
use Rattle.sok_field.proofs.OneSquare.{has-within}
use Rattle.sok_field.proofs.Spreading.{has-on}
use Rattle.sok_field.proofs.Words.{bit_at-within}
use Rattle.sok_field.proofs.flood.flood.Goals as goal

pub put-requires : goal.put-requires
put-requires c =
    let free = c.args.free.now in
    let from = c.args.from in
    let within = has-within free from c.requires.from in
    record {
      row = omega (arith, within);
      col = bit_at-within (get_or free from.row 0) from.col (c.type_inv.free from.row).fits (has-on free from c.requires.from);
    }

pub step_row-requires-clause-row : goal.step_row-requires-clause-row
step_row-requires-clause-row c = has-within c.put.new.rows c.args.from ((c.put.ensures c.args.from).1 (inl refl))

pub step_row-requires-clause-inside : goal.step_row-requires-clause-inside
step_row-requires-clause-inside c =
    let one = IsSpreading-one c.args.free.now c.args.seen.now c.put.new.rows c.args.from (omega arith) c.requires.blank c.put.ensures c.requires.from in
    one.inside c.args.from.row

pub sweep-requires : goal.sweep-requires
sweep-requires c =
    let free = c.args.free.now in
    let start = c.put.new.rows in
    let one = IsSpreading-one free c.args.seen.now start c.args.from (omega arith) c.requires.blank c.put.ensures c.requires.from in
    let flood = (c.step_row.ensures (has start) one).flooding in
    let within = has-within c.step_row.new.seen c.args.from (flood.begun c.args.from ((c.put.ensures c.args.from).1 (inl refl))) in
    record {
      whole = flood.whole;
      rows = c.requires.rows;
      inside = has-from_within c.step_row.new.seen free flood.inside;
      first = within;
      last = within;
    }

pub returns-clause-joined : goal.returns-clause-joined
returns-clause-joined c = λ s.
    let free = c.args.free.now in
    let start = c.put.new.rows in
    let one = IsSpreading-one free c.args.seen.now start c.args.from (omega arith) c.requires.blank c.put.ensures c.requires.from in
    let on = reaches-on free (has start) c.step_row.new.seen c.sweep.new.seen (c.step_row.ensures (has start) one).flooding c.sweep.ensures.reaches s in
    let from = reaches-one free c.args.seen.now start c.args.from c.requires.blank c.put.ensures s in
    (λ e. from.0 (on.0 e), λ joined. on.1 (from.1 joined))

pub returns-clause-words : goal.returns-clause-words
returns-clause-words c = λ r. (c.type_inv.free r).fits

use Rattle.std.proofs.Common.{map, length, sym, ◌∙◌, ap, arith}
use Rattle.std.specs.List.{filter_map}
use Rattle.std.specs.Str.Lines.{lines}
use Rattle.sok_text.specs.Xsb.{cell_of}
use Rattle.sok_text.proofs.Lines.{length-after_line}
use Rattle.sok_text.proofs.Runs.{not_empty}
use Rattle.sok_text.proofs.Rows.{cells_of-more, level_of-enough, level_of-all}
use Rattle.sok_text.proofs.collection.rows_of_lines.Goals as goal
use Rattle.sok_text.proofs.collection.rows_of_lines.Goals.{then-loop-rows-test+else-len-le-LIMIT, else-loop-rows-test}

pub loop-rows-smaller : goal.loop-rows-smaller
loop-rows-smaller c =
    let some = not_empty c.loop-rows.rest.now (sym c.is_empty.ensures ∙ c.loop-rows-test.true) in
    omega (arith, length-after_line c.loop-rows.rest.now some, ap length c.cut_line.ensures.rest)

pub loop-rows-preserved : goal.loop-rows-preserved
loop-rows-preserved c =
    let rest = c.loop-rows.rest.now in
    let some = not_empty rest (sym c.is_empty.ensures ∙ c.loop-rows-test.true) in
    let whole = map (filter_map cell_of) (lines c.args.board.now) in
    cells_of-more whole c.loop-rows.rows.items c.push.new.self.items c.in_ok-row_of.field-0 rest c.cut_line.result.1.now c.cut_line.result.0.now some
    c.cut_line.ensures.line c.cut_line.ensures.rest c.in_ok-row_of.ensures c.in_ok-push.ensures.items c.loop-rows.invariant

pub returns : goal.returns
returns c =
    let whole = map (filter_map cell_of) (lines c.args.board.now) in
    let rest = c.loop-rows.rest.now in
    elim c.loop-rows-test.branch [
      | then-loop-rows-test+else-len-le-LIMIT w ↦ level_of-enough whole c.loop-rows.rows.items (map (filter_map cell_of) (lines rest))
          (omega arith) c.loop-rows.invariant
      | else-loop-rows-test w ↦ level_of-all whole c.loop-rows.rows.items rest (sym c.is_empty.ensures ∙ w.loop-rows-test.false) c.loop-rows.invariant
    ]

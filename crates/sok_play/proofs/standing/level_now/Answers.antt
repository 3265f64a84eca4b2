use Rattle.std.proofs.Common.{◌∙◌, [], ap, arith, get_or, sym}
use Rattle.sok_rules.specs.Levels.{cells_of}
use Rattle.sok_rules.specs.Play.{run, start}
use Rattle.sok_rules.specs.Session.{position_of}
use Rattle.sok_play.specs.Drawings.{shown_from, shown_row}
use Rattle.sok_play.proofs.Drawn.{all_drawn, as_many, drawn_level, drawn_proper, level_more, row_few}
use Rattle.sok_play.proofs.standing.level_now.Goals as goal

pub loop-row-init : goal.loop-row-init
unfolding shown_from
loop-row-init c = λ x at. ap cells_of c.new-rows.ensures.items

pub row_now-requires-clause-few_columns : goal.row_now-requires-clause-few_columns
row_now-requires-clause-few_columns c =
    let rows = c.rows-cells-items in
    let few = row_few c.args.level.now rows.result.now c.loop-row.row c.cells-item.result rows.ensures.cells c.loop-row-test.true c.cells-item.is
    rows.ensures.proper.few_columns in
    omega (arith, c.len.ensures, few)

pub loop-row-preserved : goal.loop-row-preserved
loop-row-preserved c = λ x at.
    let rows = c.rows-cells-items in
    let i = c.loop-row.row in
    ap cells_of c.in_ok-push.ensures.items
    ∙ level_more c.args.level.now i x c.loop-row.rows.items c.in_ok-row_now.field-0
    (omega (arith, c.loop-row-test.true, as_many c.args.level.now rows.result.now rows.ensures.cells))
    (c.in_ok-row_now.ensures x at ∙ ap (λ level. shown_row x i 0 (get_or level i [])) c.requires.rows) (c.loop-row.invariant x at)

pub unwrap-requires : goal.unwrap-requires
unwrap-requires c =
    let rows = c.rows-cells-items in
    let session = c.args.session.now in
    c.new.ensures.proper.1 (drawn_proper c.args.level.now rows.result.now c.loop-row.row rows.ensures.cells c.loop-row-test.false
    (cells_of c.loop-row.rows.items) session.played (position_of session) c.loop-row.invariant rows.ensures.proper
    (ap (λ level. run level (start level) session.played) (sym c.requires.rows)) c.requires.legal)

pub returns : goal.returns
returns c = λ x at.
    let rows = c.rows-cells-items in
    let level = c.args.level.now in
    let session = c.args.session.now in
    let drawn = cells_of c.loop-row.rows.items in
    let past = c.loop-row-test.false in
    drawn_level level drawn c.unwrap.result x
    (drawn_proper level rows.result.now c.loop-row.row rows.ensures.cells past drawn session.played (position_of session) c.loop-row.invariant
    rows.ensures.proper (ap (λ level. run level (start level) session.played) (sym c.requires.rows)) c.requires.legal)
    (sym c.unwrap.ensures ∙ c.new.ensures.made)
    (all_drawn level rows.result.now c.loop-row.row rows.ensures.cells past drawn session.played (position_of session) c.loop-row.invariant x at)

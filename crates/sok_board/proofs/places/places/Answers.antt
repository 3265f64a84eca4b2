use Rattle.std.proofs.Common.{◌≤◌, ◌<◌, ◌+◌, ◌++◌, ap, sym, ◌∙◌, arith, append_assoc, length, drop}
use Rattle.std.proofs.lemmas.List.{length-map, append-nil, drop_all}
use Rattle.sok_rules.specs.Levels.{cells_of}
use Rattle.sok_rules.specs.Squares.{places_from, places_in_row}
use Rattle.sok_rules.proofs.ReadingOrder.{places_from-nil, places_from-drop, places_from_none, cells_of-row}
use Rattle.sok_board.proofs.places.places.Goals as goal

pub loop-row-init : goal.loop-row-init
loop-row-init c = ap (λ front. front ++ places_from 0 (cells_of c.args.rows.now)) c.new-spots.ensures.items ∙ places_from_none (cells_of c.args.rows.now)

pub with_row-requires : goal.with_row-requires
with_row-requires c =
    let rows = c.args.rows.now in
    let within : c.loop-row.row < length (cells_of rows) = omega (arith, length-map rows (λ row. row.items)) in
    let short = c.requires.few_columns c.loop-row.row c.index-rows-row.result.items within in
    let same = ap length (c.deref.ensures.value ∙ cells_of-row rows c.loop-row.row c.index-rows-row.result c.index-rows-row.is) in
    omega (arith, short, same)

pub loop-row-preserved : goal.loop-row-preserved
loop-row-preserved c =
    let rows = c.args.rows.now in
    let r = c.loop-row.row in
    let row = c.index-rows-row.result.items in
    let within : r < length (cells_of rows) = omega (arith, length-map rows (λ row. row.items)) in
    let rest = places_from (r + 1) (drop (r + 1) (cells_of rows)) in
    ap (λ front. front ++ rest) (c.in_ok-spots.ensures ∙ ap (λ cells. c.loop-row.spots.items ++ places_in_row r 0 cells) c.deref.ensures.value)
    ∙ append_assoc c.loop-row.spots.items (places_in_row r 0 row) rest
    ∙ ap (λ after. c.loop-row.spots.items ++ after) (sym (places_from-drop (cells_of rows) r row within
    (cells_of-row rows r c.index-rows-row.result c.index-rows-row.is)))
    ∙ c.loop-row.invariant

pub returns : goal.returns
returns c =
    let rows = c.args.rows.now in
    let past : length (cells_of rows) ≤ c.loop-row.row = omega (arith, length-map rows (λ row. row.items)) in
    sym (append-nil c.loop-row.spots.items) ∙ ap (λ rest. c.loop-row.spots.items ++ rest)
    (sym (ap (places_from c.loop-row.row) (drop_all c.loop-row.row (cells_of rows) past) ∙ places_from-nil c.loop-row.row))
    ∙ c.loop-row.invariant

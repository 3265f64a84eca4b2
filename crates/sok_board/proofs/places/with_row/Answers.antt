use Rattle.std.proofs.Common.{◌++◌, ◌∷◌, [], ap, sym, ◌∙◌, arith, append_assoc, take}
use Rattle.sok_rules.specs.declared.cell.Spot.{Spot}
use Rattle.sok_rules.specs.Squares.{places_in_row}
use Rattle.sok_rules.proofs.ReadingOrder.{take_more-places_in_row, take_all-places_in_row}
use Rattle.sok_board.proofs.places.with_row.Goals as goal

pub loop-col-preserved : goal.loop-col-preserved
loop-col-preserved c =
    let done = take c.loop-col.col (places_in_row c.args.row 0 c.args.cells.now) in
    let here : Spot = record { row = c.args.row; col = c.loop-col.col } in
    c.in_ok-push.ensures.items ∙ ap (λ front. front ++ here ∷ []) c.loop-col.invariant ∙ append_assoc c.args.spots.items done (here ∷ [])
    ∙ ap (λ rest. c.args.spots.items ++ rest) (sym (take_more-places_in_row c.args.row c.args.cells.now c.loop-col.col (omega arith)))

pub returns : goal.returns
returns c = c.loop-col.invariant ∙ ap (λ rest. c.args.spots.items ++ rest) (take_all-places_in_row c.args.row c.args.cells.now c.loop-col.col (omega arith))

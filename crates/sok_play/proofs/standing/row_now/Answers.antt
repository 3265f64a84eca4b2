use Rattle.std.proofs.Common.{◌∙◌, ap, arith, refl, take_all}
use Rattle.sok_play.specs.Drawings.{shown_row}
use Rattle.sok_play.proofs.Drawn.{row_more, seen}
use Rattle.sok_play.proofs.standing.row_now.Goals as goal

pub loop-col-init : goal.loop-col-init
unfolding shown_row
loop-col-init c = λ x at. c.in_ok-cells.ensures.items

pub unwrap-requires : goal.unwrap-requires
unwrap-requires c =
    seen c.args.session.now.rows _ c.args.row c.loop-col.col _ c.cell.result refl c.requires.within (omega arith) c.cell.ensures

pub loop-col-preserved : goal.loop-col-preserved
loop-col-preserved c = λ x at.
    c.in_ok-push.ensures.items
    ∙ row_more c.args.session.now.rows _ c.args.row c.loop-col.col x _ c.cell.result c.unwrap.result c.loop-col.cells.items refl c.requires.within (omega arith)
    c.cell.ensures c.unwrap.ensures at (c.loop-col.invariant x at)

pub returns : goal.returns
returns c = λ x at. c.loop-col.invariant x at ∙ ap (shown_row x c.args.row 0) (take_all c.loop-col.col _ (omega arith))

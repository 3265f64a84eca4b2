use Rattle.std.proofs.Common.{◌+◌, ap, arith, get_or}
use Rattle.std.proofs.lemmas.Option.{unwrap_or-slice_get}
use Rattle.sok_rules.specs.declared.cell.Spot.{Spot}
use Rattle.sok_board.specs.Spans.{spot_at}
use Rattle.sok_board.proofs.AreaLaws.{origin}
use Rattle.sok_board.proofs.Covering.{columns-more, right_of-none, right_of-more}
use Rattle.sok_board.proofs.spans.span_length.Goals as goal

pub loop-length-init : goal.loop-length-init
loop-length-init c = record { some = omega arith; within = omega arith; columns = omega arith; lies = right_of-none c.args.squares.now c.args.number }

pub loop-length-preserved : goal.loop-length-preserved
loop-length-preserved c =
    let squares = c.args.squares.now in
    let n = c.args.number in
    let m = c.loop-length.length in
    let here = ap (λ (s : Spot). s.col) (unwrap_or-slice_get squares n origin) in
    let beside = c.if-next-first-2.false in
    let before = c.loop-length.invariant.columns in
    let apart = c.if-next-eq0.false in
    record {
      some = omega arith;
      within = omega arith;
      columns = columns-more (spot_at squares n).col (get_or squares (n + m) origin).col m before (omega (arith, here, beside)) apart;
      lies = right_of-more squares n m c.if-next-first.false c.if-next-first-2.false c.loop-length.invariant.lies;
    }

use Rattle.std.proofs.Common.{◌≡◌, ◌<◌, true, false, ◌∙◌, subst, arith, filter, length}
use Rattle.std.specs.List.{range_with_len}
use Rattle.sok_rules.specs.Squares.{holds}
use Rattle.sok_board.specs.Area.{BoardView, spot_of}
use Rattle.sok_board.proofs.Numbering.{where_more, where_same}
use Rattle.sok_board.proofs.area.numbers_where.Goals as goal
use Rattle.sok_board.proofs.area.numbers_where.Goals.{then-passes+in_ok-push, else-passes}

pub loop-number-preserved : goal.loop-number-preserved
loop-number-preserved g c = λ test shut tells.
    let b : BoardView = record { rows = c.args.level.now; area = c.args.squares.now } in
    let n = c.loop-number.number in
    let so_far = c.loop-number.invariant test shut tells in
    let within : n < length c.args.squares.now = omega arith in
    elim c.if-passes.branch [
      | then-passes+in_ok-push w ↦
          let passes = tells c.cell_or_wall.result true w.if-passes.ensures ∙ c.cell_or_wall.ensures test shut in
          let more = where_more test b n c.loop-number.numbers.items within so_far passes in
          let pushed = w.in_ok-push.ensures.items in
          let now = w.numbers-is in
          cc
      | else-passes w ↦
          let fails = tells c.cell_or_wall.result false w.if-passes.ensures ∙ c.cell_or_wall.ensures test shut in
          let same = where_same test b n c.loop-number.numbers.items within so_far fails in
          let now = w.numbers-is in
          cc
    ]

pub returns : goal.returns
returns g c = λ test shut tells.
    let b : BoardView = record { rows = c.args.level.now; area = c.args.squares.now } in
    let all : c.loop-number.number ≡ length c.args.squares.now = omega arith in
    subst (λ n. c.loop-number.numbers.items ≡ filter (λ k. holds test b.rows (spot_of b k)) (range_with_len 0 n)) all (c.loop-number.invariant test shut tells)

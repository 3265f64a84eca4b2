use Rattle.std.proofs.Common.{◌≡◌, Bool, false, filter}
use Rattle.std.specs.List.{range_with_len}
use Rattle.sok_rules.specs.declared.cell.Cell.{Cell}
use Rattle.sok_rules.specs.declared.cell.Cell.TheVariants.{Wall}
use Rattle.sok_rules.specs.Squares.{holds}
use Rattle.sok_board.specs.Area.{spot_of}
use Rattle.sok_board.proofs.area.numbers_where.Given as goal

abbrev pub invariant-loop-number : goal.invariant-loop-number
invariant-loop-number g l =
    (test : Cell → Bool) → test Wall ≡ false → ((cell : Cell) (answer : Bool) → g.F.Fn.post l.passes (cell, tt) answer → answer ≡ test cell)
    → l.numbers.items ≡ filter (λ n. holds test l.level (spot_of (record { rows = l.level; area = l.squares }) n)) (range_with_len 0 l.number)

use Rattle.std.proofs.Common.{◌≡◌, filter, get_or}
use Rattle.std.specs.List.{range_with_len}
use Rattle.sok_board.specs.Area.{spot_of}
use Rattle.sok_field.specs.Fields.{has}
use Rattle.sok_bar.proofs.frozen.drawn_members.Given as goal

abbrev pub invariant-loop-index : goal.invariant-loop-index
invariant-loop-index l = l.members.items ≡ filter (λ i. has l.rows (spot_of l.board (get_or l.boxes i 0))) (range_with_len 0 l.index)

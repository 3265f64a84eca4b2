use Rattle.std.proofs.Common.{◌<◌, All, length}
use Rattle.sok_alone.proofs.asking.Asking.list_near.Given as goal

abbrev pub invariant-loop-one : goal.invariant-loop-one
invariant-loop-one l = All (λ square. square < length l.self.board.now.area) l.near.items

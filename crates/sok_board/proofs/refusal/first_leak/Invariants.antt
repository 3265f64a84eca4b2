use Rattle.std.proofs.Common.{◌≡◌, All, take, false}
use Rattle.sok_board.specs.Refusals.{has_gap}
use Rattle.sok_board.proofs.refusal.first_leak.Given as goal

abbrev pub invariant-loop-spot : goal.invariant-loop-spot
invariant-loop-spot l = All (λ s. has_gap l.level s ≡ false) (take l.spot-index l.squares)

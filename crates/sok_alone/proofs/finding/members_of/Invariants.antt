use Rattle.std.proofs.Common.{◌≡◌, ◌<◌, All, length, take}
use Rattle.sok_bar.specs.Patterns.{squares_at}
use Rattle.sok_alone.proofs.finding.members_of.Given as goal

abbrev pub invariant-loop-square : goal.invariant-loop-square
invariant-loop-square l = record {
  are : squares_at l.boxes l.members.items ≡ take l.square-index l.squares;
  within : All (λ k. k < length l.boxes) l.members.items;
}

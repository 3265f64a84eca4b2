use Rattle.std.proofs.Common.{◌≡◌, take}
use Rattle.sok_bar.specs.Patterns.{squares_at}
use Rattle.sok_bar.proofs.pattern.members_alone.Given as goal

abbrev pub invariant-loop-member : goal.invariant-loop-member
invariant-loop-member l = l.squares.items ≡ squares_at l.boxes (take l.member-index l.members)

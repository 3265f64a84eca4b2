use Rattle.sok_price.proofs.Words.{◌≡◌, members_of}
use Rattle.sok_price.proofs.assign.members_in.Given as goal

abbrev pub invariant-loop-member : goal.invariant-loop-member
invariant-loop-member l = l.members.items ≡ members_of l.branches l.member

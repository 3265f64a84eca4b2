use Rattle.std.proofs.Common.{◌≡◌, ◌+◌, ◌-◌, length}
use Rattle.sok_search.specs.Buckets.{in_buckets}
use Rattle.sok_search.proofs.buckets.make_room.Given as goal

abbrev pub invariant-loop-alloc : goal.invariant-loop-alloc
invariant-loop-alloc l = in_buckets l.buckets.items ≡ in_buckets l.initial.buckets.items

abbrev pub decreases-loop-alloc : goal.decreases-loop-alloc
decreases-loop-alloc l = l.rank + 1 - length l.buckets.items

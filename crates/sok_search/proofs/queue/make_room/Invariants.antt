use Rattle.std.proofs.Common.{◌≡◌, ◌+◌, ◌-◌, length}
use Rattle.sok_search.specs.Buckets.{in_layers}
use Rattle.sok_search.proofs.queue.make_room.Given as goal

abbrev pub invariant-loop-alloc : goal.invariant-loop-alloc
invariant-loop-alloc l = in_layers l.layers.items ≡ in_layers l.initial.layers.items

abbrev pub decreases-loop-alloc : goal.decreases-loop-alloc
decreases-loop-alloc l = l.place + 1 - length l.layers.items

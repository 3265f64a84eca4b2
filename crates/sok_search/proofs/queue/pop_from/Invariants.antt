use Rattle.std.proofs.Common.{◌≡◌, [], take}
use Rattle.sok_search.specs.Buckets.{in_layers}
use Rattle.sok_search.proofs.queue.pop_from.Given as goal

abbrev pub invariant-loop-place : goal.invariant-loop-place
invariant-loop-place l = (l.layers ≡ l.initial.layers) × (l.from ≡ 0 → in_layers (take l.place l.layers) ≡ [])

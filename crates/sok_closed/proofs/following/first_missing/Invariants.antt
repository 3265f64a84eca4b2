use Rattle.std.proofs.Common.{ℕ, ◌≡◌, ◌<◌, Some, slice_get}
use Rattle.sok_state.specs.declared.push.Push.{Push}
use Rattle.sok_state.specs.Pushes.{IsOpened}
use Rattle.sok_closed.specs.Lookup.{IsFound}
use Rattle.sok_closed.proofs.following.first_missing.Given as goal

abbrev pub invariant-loop-place : goal.invariant-loop-place
invariant-loop-place l = record {
  opened : IsOpened l.board l.key l.scene;
  found : (i : ℕ) (push : Push) → i < l.place → slice_get l.pushes i ≡ Some push → IsFound l.board l.table.entries l.key l.depth push;
}

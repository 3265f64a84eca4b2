use Rattle.std.proofs.Common.{ℕ, ◌≡◌, ◌<◌, Some, slice_get}
use Rattle.sok_state.specs.declared.push.Push.{Push}
use Rattle.sok_state.specs.Pushes.{IsOpened}
use Rattle.sok_closed.specs.Lookup.{IsFound}
use Rattle.sok_alone.specs.Known.{IsKnown}
use Rattle.sok_alone.specs.Meeting.{Grows}
use Rattle.sok_alone.proofs.expanding.follow_all.Given as goal

abbrev pub ghost-meet : goal.ghost-meet
ghost-meet g a = g.start

abbrev pub invariant-loop-push : goal.invariant-loop-push
invariant-loop-push g l = record {
  known : IsKnown l.setting.board.now g.start l.limit l.known;
  grows : Grows l.initial.known l.known;
  opened : IsOpened l.setting.board.now l.key l.scene;
  found : (i : ℕ) (push : Push) → i < l.push-index → slice_get l.pushes i ≡ Some push → IsFound l.setting.board.now l.known.table.entries l.key 0 push;
}

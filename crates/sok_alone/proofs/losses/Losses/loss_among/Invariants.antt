use Rattle.std.proofs.Common.{ℕ, ◌≡◌, ◌<◌, Contains, Some, slice_get}
use Rattle.sok_alone.specs.Losses.{AddsLosses, HasRoom, IsPairGivenUp}
use Rattle.sok_alone.proofs.losses.Losses.loss_among.Given as goal

abbrev pub invariant-loop-one : goal.invariant-loop-one
invariant-loop-one l = record {
  adds : AddsLosses l.setting.board.now l.initial.self l.self;
  none : HasRoom l.self → (i one : ℕ) → i < l.one-index → slice_get l.all i ≡ Some one → (other : ℕ) → Contains l.all other
      → IsPairGivenUp l.setting.board.now l.player one other;
}

abbrev pub invariant-loop-other : goal.invariant-loop-other
invariant-loop-other l = record {
  adds : AddsLosses l.setting.board.now l.initial.self l.self;
  none : HasRoom l.self → (i other : ℕ) → i < l.other-index → slice_get l.all i ≡ Some other → IsPairGivenUp l.setting.board.now l.player l.one other;
}

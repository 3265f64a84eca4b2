use Rattle.sok_alone.specs.Losses.{AddsLosses}
use Rattle.sok_alone.proofs.losses.Losses.loss_of_three.Given as goal

abbrev pub invariant-loop-index : goal.invariant-loop-index
invariant-loop-index l = AddsLosses l.asking.board.now l.initial.self l.self

abbrev pub invariant-loop-two : goal.invariant-loop-two
invariant-loop-two l = AddsLosses l.asking.board.now l.initial.self l.self

use Rattle.sok_bar.specs.Narrowed.{TellsPass}
use Rattle.sok_bar.proofs.layout_jam.take_loose.Given as goal

abbrev pub invariant-loop-square : goal.invariant-loop-square
invariant-loop-square l = TellsPass l.setting.board.now l.boxes l.square-index l.initial.held l.held l.taken

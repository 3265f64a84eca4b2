use Rattle.sok_bar.specs.Narrowed.{KeepsJams, drawn_of}
use Rattle.sok_bar.proofs.frozen.held_members.Given as goal

abbrev pub invariant-passes : goal.invariant-passes
invariant-passes l = KeepsJams l.setting.board.now l.boxes l.held

abbrev pub decreases-passes : goal.decreases-passes
decreases-passes l = drawn_of l.setting.board.now l.boxes l.held

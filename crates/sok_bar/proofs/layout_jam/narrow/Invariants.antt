use Rattle.std.proofs.Common.{ℕ, List}
use Rattle.sok_bar.specs.Narrowed.{KeepsJams, drawn_of}
use Rattle.sok_bar.proofs.layout_jam.narrow.Given as goal

abbrev pub invariant-passes : goal.invariant-passes
invariant-passes l = (others : List ℕ) → KeepsJams l.setting.board.now others l.initial.held → KeepsJams l.setting.board.now others l.held

abbrev pub decreases-passes : goal.decreases-passes
decreases-passes l = drawn_of l.setting.board.now l.boxes l.held

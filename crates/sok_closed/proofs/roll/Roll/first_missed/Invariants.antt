use Rattle.std.proofs.Common.{ℕ, List}
use Rattle.sok_region.specs.Layouts.{IsLaidOut}
use Rattle.sok_closed.specs.Lookup.{AreFollowed}
use Rattle.sok_closed.proofs.roll.Roll.first_missed.Given as goal

abbrev pub invariant-loop-index : goal.invariant-loop-index
invariant-loop-index l = record {
  followed : AreFollowed l.board l.self l.index;
  laid : (boxes : List ℕ) × IsLaidOut l.board boxes l.expansion.scene.layout;
}

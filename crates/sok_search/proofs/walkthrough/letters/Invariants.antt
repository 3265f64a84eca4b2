use Rattle.std.proofs.Common.{length, vec_len}
use Rattle.sok_state.specs.Pushes.{IsOpened}
use Rattle.sok_search.proofs.Walkthroughs.{IsUnderWay}
use Rattle.sok_search.proofs.walkthrough.letters.Given as goal

abbrev pub invariant-loop-push : goal.invariant-loop-push
invariant-loop-push l = record {
  way : IsUnderWay l.board (length l.fn.trace.items) l.walkthrough l.rest.items;
  opened : IsOpened l.board l.walkthrough.key l.scene;
}

abbrev pub decreases-loop-push : goal.decreases-loop-push
decreases-loop-push l = vec_len l.rest

use Rattle.std.proofs.Common.{◌≡◌}
use Rattle.sok_search.specs.Searches.{IsSearch}
use Rattle.sok_search.specs.Steps.{work}
use Rattle.sok_search.specs.PushScratches.{IsReady}
use Rattle.sok_search.specs.Views.{progress_of}
use Rattle.sok_search.proofs.running.search_on.Given as goal

abbrev pub invariant-loop-index : goal.invariant-loop-index
invariant-loop-index l = record {
  search : IsSearch l.setting.board.now l.limit (progress_of l.search);
  aim : l.search.aim ≡ l.initial.search.aim;
  ready : IsReady l.setting.board.now l.scratch;
}

abbrev pub decreases-loop-index : goal.decreases-loop-index
decreases-loop-index l = work l.limit (progress_of l.search)

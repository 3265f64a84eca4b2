use Rattle.sok_search.specs.Halted.{IsLeastOfFirst}
use Rattle.sok_search.specs.Views.{progress_of}
use Rattle.sok_search.proofs.halted.least_open.Given as goal

abbrev pub invariant-loop-index : goal.invariant-loop-index
invariant-loop-index l = IsLeastOfFirst (progress_of l.search) l.index l.least

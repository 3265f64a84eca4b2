use Rattle.std.proofs.Common.{get_or}
use Rattle.std.specs.Map.{values_of}
use Rattle.sok_search.specs.Views.{progress_of}
use Rattle.sok_search.proofs.Traces.{IsTracing}
use Rattle.sok_search.proofs.tracing.trace.Given as goal

abbrev pub invariant-loop-origin : goal.invariant-loop-origin
invariant-loop-origin l = IsTracing (progress_of l.search) l.index l.at l.trace.items

abbrev pub decreases-loop-origin : goal.decreases-loop-origin
decreases-loop-origin l = get_or (values_of (progress_of l.search).table) l.at 0

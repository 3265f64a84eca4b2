use Rattle.std.proofs.Common.{ℕ, ◌<◌}
use Rattle.sok_search.specs.Walkthroughs.{IsSolvedAt}
use Rattle.sok_search.specs.Views.{progress_of}
use Rattle.sok_search.proofs.tracing.find_solved.Given as goal

abbrev pub invariant-loop-index : goal.invariant-loop-index
invariant-loop-index l = (i : ℕ) → i < l.index → IsSolvedAt l.board (progress_of l.search) l.pushes i → ⊥

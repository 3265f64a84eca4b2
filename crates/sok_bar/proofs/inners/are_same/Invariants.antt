use Rattle.std.proofs.Common.{ℕ, ◌≡◌, ◌<◌, get_or}
use Rattle.sok_entry.specs.declared.entry.Inner.{Inner}
use Rattle.sok_bar.proofs.inners.are_same.Given as goal

abbrev pub invariant-loop-place : goal.invariant-loop-place
invariant-loop-place l = (k : ℕ) (d : Inner) → k < l.place → get_or l.inner k d ≡ get_or l.other k d

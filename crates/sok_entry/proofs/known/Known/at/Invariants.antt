use Rattle.std.proofs.Common.{ℕ, ◌<◌, get_or}
use Rattle.sok_entry.specs.declared.known.KnownList.{KnownList}
use Rattle.sok_entry.proofs.KnownLists.{IsMissed}
use Rattle.sok_entry.proofs.known.Known.at.Given as goal

-- none that was passed is at the front
abbrev pub invariant-loop-known : goal.invariant-loop-known
invariant-loop-known l = (k : ℕ) (d : KnownList) → k < l.known-index → IsMissed l.text l.count (get_or l.known-items k d)

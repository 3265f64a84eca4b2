use Rattle.std.proofs.Common.{ℕ, ◌≡◌, ◌<◌, get_or}
use Rattle.sok_bar.specs.declared.memo.Kept.{Kept}
use Rattle.sok_bar.proofs.memo.Memo.has.Given as goal

-- none that was passed is the one
abbrev pub invariant-loop-kept : goal.invariant-loop-kept
invariant-loop-kept l = (k : ℕ) (d : Kept) → k < l.kept-index → get_or l.self.lists.items k d ≡ record { key = l.key; inner = l.inner } → ⊥

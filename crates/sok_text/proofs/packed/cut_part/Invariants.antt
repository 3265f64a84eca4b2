use Rattle.std.proofs.Common.{◌≡◌, ◌≤◌, ◌-◌, All, false, length, take}
use Rattle.sok_text.specs.Packed.{is_bar}
use Rattle.sok_text.proofs.packed.cut_part.Given as goal

abbrev pub invariant-loop-end : goal.invariant-loop-end
invariant-loop-end l = record {
  within : l.end ≤ length l.text;
  none : All (λ c. is_bar c ≡ false) (take l.end l.text);
}

abbrev pub decreases-loop-end : goal.decreases-loop-end
decreases-loop-end l = length l.text - l.end

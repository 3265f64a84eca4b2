use Rattle.std.proofs.Common.{◌≡◌, ◌≤◌, length, take}
use Rattle.sok_text.specs.Titles.{trimmed_back}
use Rattle.sok_text.proofs.title.trim_back.Given as goal

abbrev pub invariant-loop-end : goal.invariant-loop-end
invariant-loop-end l = record {
  within : l.end ≤ length l.text;
  passed : trimmed_back (take l.end l.text) ≡ trimmed_back l.text;
}

abbrev pub decreases-loop-end : goal.decreases-loop-end
decreases-loop-end l = l.end

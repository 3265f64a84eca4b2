use Rattle.std.proofs.Common.{◌≡◌, ◌≤◌, length, take}
use Rattle.sok_text.specs.Titles.{without_back}
use Rattle.sok_book.specs.Titles.{is_end_blank}
use Rattle.sok_book.proofs.title.without_blanks_at_back.Given as goal

abbrev pub invariant-loop-end : goal.invariant-loop-end
invariant-loop-end l = record {
  within : l.end ≤ length l.text;
  passed : without_back is_end_blank (take l.end l.text) ≡ without_back is_end_blank l.text;
}

abbrev pub decreases-loop-end : goal.decreases-loop-end
decreases-loop-end l = l.end

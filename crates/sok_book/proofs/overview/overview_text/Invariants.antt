use Rattle.std.proofs.Common.{◌≡◌, ◌+◌, ◌++◌, drop}
use Rattle.sok_book.specs.Overview.{overview_from}
use Rattle.sok_book.specs.Records.{pages_of}
use Rattle.sok_book.proofs.overview.overview_text.Given as goal

-- the text so far, and the lines that are left, are all lines
abbrev pub invariant-loop-index : goal.invariant-loop-index
invariant-loop-index l =
    l.text.items ++ overview_from (l.index + 1) (pages_of (drop l.index l.records)) ≡ overview_from 1 (pages_of l.records)

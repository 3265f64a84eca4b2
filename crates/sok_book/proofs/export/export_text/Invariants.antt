use Rattle.std.proofs.Common.{◌≡◌, take}
use Rattle.sok_book.specs.Exported.{export_text}
use Rattle.sok_book.specs.Records.{pages_of}
use Rattle.sok_book.proofs.export.export_text.Given as goal

abbrev pub invariant-loop-kept : goal.invariant-loop-kept
invariant-loop-kept l = l.text.items ≡ export_text l.solutions (pages_of (take l.kept-index l.records))

use Rattle.std.proofs.Common.{◌≡◌, take}
use Rattle.std.specs.List.{filter_map}
use Rattle.sok_text.specs.Xsb.{cell_of}
use Rattle.sok_text.proofs.collection.row_of.Given as goal

abbrev pub invariant-loop-byte : goal.invariant-loop-byte
invariant-loop-byte l = l.row.items ≡ filter_map cell_of (take l.byte-index l.line)

use Rattle.std.proofs.Common.{◌≡◌, ◌++◌, take}
use Rattle.std.specs.List.{flat_map}
use Rattle.sok_entry.specs.Text.{header, claim_line, ended, entry_lines, version_of}
use Rattle.sok_entry.proofs.writing.write.Given as goal

abbrev pub invariant-loop-entry : goal.invariant-loop-entry
invariant-loop-entry l = l.text.items ≡ (ended (header (version_of l.certificate.entries.items)) ++ ended (claim_line l.certificate.claim)) ++ flat_map ended
    (flat_map entry_lines (take l.entry-index l.certificate.entries.items))

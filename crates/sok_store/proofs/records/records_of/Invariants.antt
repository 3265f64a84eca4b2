use Rattle.std.specs.BTreeSet.{contains_text}
use Rattle.sok_store.proofs.NextRow.{IsSeen}
use Rattle.sok_store.proofs.records.records_of.Given as goal

abbrev pub invariant-loop-row : goal.invariant-loop-row
invariant-loop-row l = IsSeen l.rows l.row-index l.records.items (contains_text l.texts)

use Rattle.std.proofs.Common.{w64}
use Rattle.std.proofs.lemmas.Int.{to_z-of_z}
use Rattle.sok_store.proofs.Calls.{finds_keeps}
use Rattle.sok_keep.proofs.show.record_at.Goals as goal

pub returns-in-Ok-clause-found : goal.returns-in-Ok-clause-found
returns-in-Ok-clause-found g c = finds_keeps _ _ _ (rw (to_z-of_z w64 c.args.id c.ranges.id) at c.in-Ok.ensures.found)

pub returns-in-Err-clause-unfound : goal.returns-in-Err-clause-unfound
returns-in-Err-clause-unfound g c =
    (c.in-Err.fault, c.from.ensures, rw (to_z-of_z w64 c.args.id c.ranges.id) at c.in-Err.ensures.refused)

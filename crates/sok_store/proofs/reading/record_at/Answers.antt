use Rattle.std.proofs.Common.{◌∙◌, ap, w64}
use Rattle.std.proofs.lemmas.Int.{to_z-of_z}
use Rattle.sqlite.specs.Held.{state}
use Rattle.sok_store.specs.Calls.{id_number}
use Rattle.sok_store.proofs.Found.{reads_nowhere}
use Rattle.sok_store.proofs.reading.record_at.Goals as goal

pub returns-in-Some : goal.returns-in-Some
returns-in-Some g c = rw (c.in-Some.ensures.0 ∙ ap id_number (to_z-of_z w64 c.args.id c.ranges.id)) at c.read_record.ensures

pub returns-in-None : goal.returns-in-None
returns-in-None g c =
    let old = state g.S.Store c.args.conn.now in
    reads_nowhere old (id_number c.args.id) (rw (to_z-of_z w64 c.args.id c.ranges.id) at c.in-None.ensures)

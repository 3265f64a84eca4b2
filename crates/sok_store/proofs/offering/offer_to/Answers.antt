use Rattle.std.proofs.Common.{◌∙◌, ap, w64}
use Rattle.std.proofs.lemmas.Int.{to_z-of_z}
use Rattle.sqlite.specs.Held.{state}
use Rattle.sok_book.specs.declared.fault.BookFault.TheVariants.{NoLevel}
use Rattle.sok_store.specs.Calls.{id_number}
use Rattle.sok_store.proofs.Calls.{same_on}
use Rattle.sok_store.proofs.Running.{nowhere_runs}
use Rattle.sok_store.proofs.offering.offer_to.Goals as goal

pub returns-in-Some-clause-runs : goal.returns-in-Some-clause-runs
returns-in-Some-clause-runs g c = rw (c.in-Some.ensures.0 ∙ ap id_number (to_z-of_z w64 c.args.id c.ranges.id)) at c.offer_at.ensures.runs

pub returns-in-None-clause-runs : goal.returns-in-None-clause-runs
returns-in-None-clause-runs g c =
    nowhere_runs (state g.S.Store c.args.conn.now) _ _ _ (id_number c.args.id) (rw (to_z-of_z w64 c.args.id c.ranges.id) at c.in-None.ensures)
    (λ book none. none)

pub returns-in-None-clause-shows : goal.returns-in-None-clause-shows
returns-in-None-clause-shows g c = same_on (state g.S.Store c.args.conn.now) NoLevel

use Rattle.std.proofs.Common.{◌∙◌, ap, w64}
use Rattle.std.proofs.lemmas.Int.{to_z-of_z}
use Rattle.sqlite.specs.Held.{state}
use Rattle.sok_store.specs.Calls.{id_number}
use Rattle.sok_store.proofs.Verdicts.{none_stands}
use Rattle.sok_store.proofs.Running.{nowhere_runs}
use Rattle.sok_store.proofs.verdict.set_verdict_to.Goals as goal

pub returns-in-Some : goal.returns-in-Some
returns-in-Some g c = rw (c.in-Some.ensures.0 ∙ ap id_number (to_z-of_z w64 c.args.id c.ranges.id)) at c.set_verdict_at.ensures

pub returns-in-None : goal.returns-in-None
returns-in-None g c =
    nowhere_runs (state g.S.Store c.args.conn.now) _ _ _ (id_number c.args.id) (rw (to_z-of_z w64 c.args.id c.ranges.id) at c.in-None.ensures)
    (λ book none. none_stands _ _ none)

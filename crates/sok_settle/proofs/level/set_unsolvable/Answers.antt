use Rattle.std.proofs.Common.{w64}
use Rattle.std.proofs.lemmas.Int.{to_z-of_z}
use Rattle.sqlite.specs.Held.{state}
use Rattle.sok_settle.proofs.Offering.{none_set_goes, none_unset_goes}
use Rattle.sok_settle.proofs.level.set_unsolvable.Goals as goal

pub returns-in-Ok : goal.returns-in-Ok
returns-in-Ok g c span page same =
    none_set_goes span c.args.id page c.args.level.now same (state g.S.Store c.args.book.now) (state g.S.Store c.set_verdict.new.self) c.requires.unsolvable
    (rw (to_z-of_z w64 c.args.id c.ranges.id) at c.set_verdict.ensures.stop) (g.W.Write.contents c.args.out.now) (g.W.Write.contents c.tell.new.out) c.tell.result
    (rw (to_z-of_z w64 c.args.id c.ranges.id) at c.in-Ok.ensures.set)
    (rw (c.unsolvable_line.ensures, to_z-of_z w64 c.args.id c.ranges.id) at c.tell.ensures)

pub returns-in-Err : goal.returns-in-Err
returns-in-Err g c span page same =
    rw c.from.ensures (none_unset_goes span c.args.id page c.args.level.now same (state g.S.Store c.args.book.now) (state g.S.Store c.set_verdict.new.self)
    c.requires.unsolvable (rw (to_z-of_z w64 c.args.id c.ranges.id) at c.set_verdict.ensures.stop) (g.W.Write.contents c.args.out.now) c.in-Err.fault
    (rw (to_z-of_z w64 c.args.id c.ranges.id) at c.in-Err.ensures.refused) (rw (to_z-of_z w64 c.args.id c.ranges.id) at c.in-Err.ensures.cause))

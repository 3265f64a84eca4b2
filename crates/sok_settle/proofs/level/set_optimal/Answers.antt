use Rattle.std.proofs.Common.{w64}
use Rattle.std.proofs.lemmas.Int.{to_z-of_z}
use Rattle.sqlite.specs.Held.{state}
use Rattle.sok_settle.proofs.Offering.{set_goes, unoffered_goes, unset_goes}
use Rattle.sok_settle.proofs.level.set_optimal.Goals as goal

pub returns-in-Err : goal.returns-in-Err
returns-in-Err g c span page same =
    rw c.from.ensures (unoffered_goes span c.args.id page c.args.level.now same (state g.S.Store c.args.book.now) (state g.S.Store c.offer_with_best.new.self)
    c.args.dirs.now c.args.pushes c.requires.few c.requires.fewest (rw (to_z-of_z w64 c.args.id c.ranges.id) at c.offer_with_best.ensures.stop)
    (g.W.Write.contents c.args.out.now) c.in-Err.fault (rw (to_z-of_z w64 c.args.id c.ranges.id) at c.in-Err.ensures.refused)
    (rw (to_z-of_z w64 c.args.id c.ranges.id) at c.in-Err.ensures.cause))

pub returns-in-Ok-set_verdict : goal.returns-in-Ok-set_verdict
returns-in-Ok-set_verdict g c span page same =
    set_goes span c.args.id page c.args.level.now same (state g.S.Store c.args.book.now) (state g.S.Store c.offer_with_best.new.self)
    c.args.dirs.now c.args.pushes c.requires.few c.requires.fewest (rw (to_z-of_z w64 c.args.id c.ranges.id) at c.offer_with_best.ensures.stop)
    c.in-Ok.told (rw (to_z-of_z w64 c.args.id c.ranges.id) at c.in-Ok.ensures.offered) (state g.S.Store c.set_verdict.new.self)
    (rw (to_z-of_z w64 c.args.id c.ranges.id) at c.set_verdict.ensures.stop) (g.W.Write.contents c.args.out.now) (g.W.Write.contents c.tell.new.out) c.tell.result
    (rw (to_z-of_z w64 c.args.id c.ranges.id) at c.in-Ok-set_verdict.ensures.set)
    (rw (c.optimal_line.ensures, to_z-of_z w64 c.args.id c.ranges.id) at c.tell.ensures)

pub returns-in-Err-set_verdict : goal.returns-in-Err-set_verdict
returns-in-Err-set_verdict g c span page same =
    rw c.from-in-Err-set_verdict.ensures (unset_goes span c.args.id page c.args.level.now same (state g.S.Store c.args.book.now)
    (state g.S.Store c.offer_with_best.new.self) c.args.dirs.now c.args.pushes c.requires.few c.requires.fewest
    (rw (to_z-of_z w64 c.args.id c.ranges.id) at c.offer_with_best.ensures.stop)
    c.in-Ok.told (rw (to_z-of_z w64 c.args.id c.ranges.id) at c.in-Ok.ensures.offered) (state g.S.Store c.set_verdict.new.self)
    (rw (to_z-of_z w64 c.args.id c.ranges.id) at c.set_verdict.ensures.stop) (g.W.Write.contents c.args.out.now) c.in-Err-set_verdict.fault
    (rw (to_z-of_z w64 c.args.id c.ranges.id) at c.in-Err-set_verdict.ensures.refused)
    (rw (to_z-of_z w64 c.args.id c.ranges.id) at c.in-Err-set_verdict.ensures.cause))

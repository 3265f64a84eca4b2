use Rattle.std.proofs.Common.{w64}
use Rattle.std.proofs.lemmas.Int.{to_z-of_z}
use Rattle.sqlite.specs.Held.{state}
use Rattle.sok_settle.proofs.Telling.{refused_goes, taken_goes}
use Rattle.sok_settle.proofs.offers.offer_letters.Goals as goal

pub returns-in-Ok : goal.returns-in-Ok
returns-in-Ok g c text spelled =
    taken_goes c.args.id text (state g.S.Store c.args.book.now) (state g.S.Store c.offer_with_best.new.self) c.args.letters.now spelled
    (rw (to_z-of_z w64 c.args.id c.ranges.id) at c.offer_with_best.ensures.stop) c.in-Ok.told (g.W.Write.contents c.args.out.now)
    (g.W.Write.contents c.tell.new.out) c.tell.result (rw (to_z-of_z w64 c.args.id c.ranges.id) at c.in-Ok.ensures.offered)
    (rw (c.told_line.ensures, to_z-of_z w64 c.args.id c.ranges.id) at c.tell.ensures)

pub returns-in-Err : goal.returns-in-Err
returns-in-Err g c text spelled =
    refused_goes c.args.id text (state g.S.Store c.args.book.now) (state g.S.Store c.offer_with_best.new.self) c.args.letters.now spelled
    (rw (to_z-of_z w64 c.args.id c.ranges.id) at c.offer_with_best.ensures.stop) c.in-Err.fault
    (rw (to_z-of_z w64 c.args.id c.ranges.id) at c.in-Err.ensures.refused) (g.W.Write.contents c.args.out.now)
    (g.W.Write.contents c.tell_refused.new.out) c.tell_refused.result c.in-Err.ensures.shows
    (rw (to_z-of_z w64 c.args.id c.ranges.id) at c.in-Err.ensures.cause) (rw (to_z-of_z w64 c.args.id c.ranges.id) at c.tell_refused.ensures)

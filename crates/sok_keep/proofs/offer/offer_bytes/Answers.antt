use Rattle.std.proofs.Common.{◌∙◌, subst, sym, w64}
use Rattle.std.proofs.lemmas.Int.{to_z-of_z}
use Rattle.std.proofs.lemmas.Result.{err_from_is_err_and}
use Rattle.sqlite.specs.Held.{state}
use Rattle.sok_text.specs.Lurd.{Spells}
use Rattle.sok_keep.specs.Offers.{OffersText}
use Rattle.sok_keep.proofs.Ending.{book_unread, caused_more, done_open, lurd_database, lurd_unread, written_caused, written_unread}
use Rattle.sok_keep.proofs.Offering.{offer_done, offer_refused, offer_unread}
use Rattle.sok_store.proofs.Calls.{stops_less, stops_same}
use Rattle.sok_keep.proofs.offer.offer_bytes.Goals as goal

pub returns-in_err-letters-clause-writes : goal.returns-in_err-letters-clause-writes
returns-in_err-letters-clause-writes g c =
    let p = err_from_is_err_and c.from_residual.result c.from_residual.ensures.1 in
    rw (p.1, p.2) (offer_unread (state g.S.Store c.args.book.now) c.args.id c.args.text.now _ c.in_err-letters.field-0.0 c.in_err-letters.ensures)

pub returns-in-Ok-clause-writes : goal.returns-in-Ok-clause-writes
returns-in-Ok-clause-writes g c =
    let spelled : Spells c.args.text.now c.deref.result.now = subst (Spells c.args.text.now) (sym c.deref.ensures.value) c.in_ok-letters.ensures in
    offer_done (state g.S.Store c.args.book.now) (state g.S.Store c.offer_with_best.new.self) c.args.id c.args.text.now c.deref.result.now c.in-Ok.told
    (g.W.Write.contents c.args.out.now) (g.W.Write.contents c.write_line.new.out) c.write_line.result spelled
    (rw (to_z-of_z w64 c.args.id c.ranges.id) at c.in-Ok.ensures.offered) (rw (c.offer_line.ensures.line, c.offer_status.ensures) at c.write_line.ensures)

pub returns-clause-writes : goal.returns-clause-writes
returns-clause-writes g c =
    let spelled : Spells c.args.text.now c.deref.result.now = subst (Spells c.args.text.now) (sym c.deref.ensures.value) c.in_ok-letters.ensures in
    rw c.from.ensures (offer_refused (state g.S.Store c.args.book.now) (state g.S.Store c.offer_with_best.new.self) c.args.id c.args.text.now c.deref.result.now _
    c.in-Err.fault spelled (rw (to_z-of_z w64 c.args.id c.ranges.id) at c.in-Err.ensures.refused))

pub returns-in_err-letters-clause-cause : goal.returns-in_err-letters-clause-cause
returns-in_err-letters-clause-cause g c =
    let p = err_from_is_err_and c.from_residual.result c.from_residual.ensures.1 in
    rw p.1 (λ told. absurd (lurd_database c.in_err-letters.field-0.0 (sym p.2 ∙ told)))

pub returns-in-Ok-clause-cause : goal.returns-in-Ok-clause-cause
returns-in-Ok-clause-cause g c =
    written_caused (state g.S.Store c.args.book.now) (state g.S.Store c.offer_with_best.new.self) (OffersText c.args.id c.args.text.now) _
    (g.W.Write.contents c.args.out.now) (g.W.Write.contents c.write_line.new.out) c.write_line.result c.write_line.ensures

pub returns-clause-cause : goal.returns-clause-cause
returns-clause-cause g c =
    let spelled : Spells c.args.text.now c.deref.result.now = subst (Spells c.args.text.now) (sym c.deref.ensures.value) c.in_ok-letters.ensures in
    rw c.from.ensures (caused_more (state g.S.Store c.args.book.now) (state g.S.Store c.offer_with_best.new.self) (OffersText c.args.id c.args.text.now) _
    (λ book after made. (c.deref.result.now, spelled, made.0.offer, made.1.offered)) c.in-Err.fault
    (rw (to_z-of_z w64 c.args.id c.ranges.id) at c.in-Err.ensures.cause))

pub returns-in-Ok-clause-open : goal.returns-in-Ok-clause-open
returns-in-Ok-clause-open g c =
    done_open (state g.S.Store c.args.book.now) (state g.S.Store c.offer_with_best.new.self) _ c.write_line.result
    (rw (to_z-of_z w64 c.args.id c.ranges.id) at c.in-Ok.ensures.offered)

pub returns-in_err-letters-clause-stop : goal.returns-in_err-letters-clause-stop
returns-in_err-letters-clause-stop g c = stops_same (state g.S.Store c.args.book.now) _

pub returns-in-Ok-clause-stop : goal.returns-in-Ok-clause-stop
returns-in-Ok-clause-stop g c =
    let spelled : Spells c.args.text.now c.deref.result.now = subst (Spells c.args.text.now) (sym c.deref.ensures.value) c.in_ok-letters.ensures in
    stops_less (state g.S.Store c.args.book.now) (state g.S.Store c.offer_with_best.new.self) _ (OffersText c.args.id c.args.text.now)
    (λ book after made. (c.deref.result.now, spelled, made.0.offer, made.1.offered)) (rw (to_z-of_z w64 c.args.id c.ranges.id) at c.offer_with_best.ensures.stop)

pub returns-clause-stop : goal.returns-clause-stop
returns-clause-stop g c =
    let spelled : Spells c.args.text.now c.deref.result.now = subst (Spells c.args.text.now) (sym c.deref.ensures.value) c.in_ok-letters.ensures in
    stops_less (state g.S.Store c.args.book.now) (state g.S.Store c.offer_with_best.new.self) _ (OffersText c.args.id c.args.text.now)
    (λ book after made. (c.deref.result.now, spelled, made.0.offer, made.1.offered)) (rw (to_z-of_z w64 c.args.id c.ranges.id) at c.offer_with_best.ensures.stop)

pub returns-in_err-letters-clause-reads : goal.returns-in_err-letters-clause-reads
returns-in_err-letters-clause-reads g c =
    let p = err_from_is_err_and c.from_residual.result c.from_residual.ensures.1 in
    rw p.1 (λ told. lurd_unread c.in_err-letters.field-0.0 (sym p.2 ∙ told))

pub returns-in-Ok-clause-reads : goal.returns-in-Ok-clause-reads
returns-in-Ok-clause-reads g c =
    written_unread _ (g.W.Write.contents c.args.out.now) (g.W.Write.contents c.write_line.new.out) c.write_line.result c.write_line.ensures

pub returns-clause-reads : goal.returns-clause-reads
returns-clause-reads g c = rw c.from.ensures (book_unread c.in-Err.fault)

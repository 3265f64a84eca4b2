use Rattle.std.proofs.Common.{◌∙◌, sym, w64}
use Rattle.std.proofs.lemmas.Int.{to_z-of_z}
use Rattle.std.proofs.lemmas.Result.{err_from_is_err_and}
use Rattle.sqlite.specs.Held.{state}
use Rattle.sok_engine.proofs.Answering.{Writes-one}
use Rattle.sok_keep.specs.Shows.{IsShow}
use Rattle.sok_keep.proofs.Ending.{book_unread, written_unread}
use Rattle.sok_keep.proofs.Showing.{page_unshown, shows}
use Rattle.sok_keep.proofs.show.show_bytes.Goals as goal

pub returns-in_err-kept-clause-writes : goal.returns-in_err-kept-clause-writes
returns-in_err-kept-clause-writes g c =
    let p = err_from_is_err_and c.from_residual.result c.from_residual.ensures.1 in
    rw (p.1, p.2) (page_unshown (state g.S.Store c.args.book.now) (state g.S.Store c.record_at.new.book) c.args.id (g.W.Write.contents c.args.out.now)
    c.in_err-kept.field-0.0 (rw (to_z-of_z w64 c.args.id c.ranges.id) at c.in_err-kept.ensures.unfound))

pub returns-clause-writes : goal.returns-clause-writes
returns-clause-writes g c clean book holds =
    let found = rw (to_z-of_z w64 c.args.id c.ranges.id) at c.in_ok-kept.ensures.found in
    let (at, held) = found clean book holds in
    let shown = shows book c.args.id c.in_ok-kept.kept c.new-answer.result at (c.new-answer.ensures.text ∙ c.in_ok-shown_text.ensures) c.new-answer.ensures.status in
    (Writes-one (IsShow book c.args.id) (g.W.Write.contents c.args.out.now) (g.W.Write.contents c.write.new.out) c.new-answer.result c.write.result shown c.write.ensures, held)

pub returns-in_err-kept-clause-reads : goal.returns-in_err-kept-clause-reads
returns-in_err-kept-clause-reads g c =
    let p = err_from_is_err_and c.from_residual.result c.from_residual.ensures.1 in
    let (fault, told, keeps) = c.in_err-kept.ensures.unfound in
    rw p.1 (λ is. book_unread fault (sym told ∙ sym p.2 ∙ is))

pub returns-clause-reads : goal.returns-clause-reads
returns-clause-reads g c =
    written_unread c.new-answer.result (g.W.Write.contents c.args.out.now) (g.W.Write.contents c.write.new.out) c.write.result c.write.ensures

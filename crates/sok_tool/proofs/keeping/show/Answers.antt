use Rattle.std.proofs.Common.{◌≡◌, inl, refl}
use Rattle.sqlite.specs.Held.{state}
use Rattle.sok_engine.specs.Written.{Writes}
use Rattle.sok_store.specs.Calls.{KeepsBook}
use Rattle.sok_keep.specs.Shows.{IsShow}
use Rattle.sok_keep.proofs.Ids.{of_passed}
use Rattle.sok_tool.proofs.Working.{KeepsBook-changes, without_book, works}
use Rattle.sok_tool.proofs.keeping.show.Goals as goal

pub returns-in_err-book : goal.returns-in_err-book
returns-in_err-book g c = without_book _ _ _ _ _ _ _ c.from_residual.ensures.1 c.in_err-book.ensures.refused

pub returns : goal.returns
returns g c =
    let call = c.show_bytes-told in
    let before = g.W.Write.contents c.args.out.now in
    let later = g.W.Write.contents call.new.out in
    let shown = of_passed (λ id. KeepsBook (state g.S.Store c.in_ok-book.book) (state g.S.Store call.new.book) (λ book. Writes (IsShow book id) before later call.result))
    c.args.id c.ranges.id call.ensures.writes in
    works _ _ _ (λ ended book after. (after ≡ book) × Writes (IsShow book c.args.id) before later ended) _ _ _ (inl refl) c.in_ok-book.book call.new.book _ c.in_ok-book.ensures.opens c.into_connection.ensures c.close.ensures
    (KeepsBook-changes _ _ _ shown) call.ensures.stop call.ensures.cause

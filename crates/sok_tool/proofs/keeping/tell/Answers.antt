use Rattle.std.proofs.Common.{◌≡◌, inl, refl}
use Rattle.sok_engine.specs.Written.{Writes}
use Rattle.sok_keep.specs.Shows.{IsBookText}
use Rattle.sok_tool.proofs.Working.{KeepsBook-changes, without_book, works}
use Rattle.sok_tool.proofs.keeping.tell.Goals as goal

pub returns-in_err-book : goal.returns-in_err-book
returns-in_err-book g c = without_book _ _ _ _ _ _ _ c.from_residual.ensures.1 c.in_err-book.ensures.refused

pub returns : goal.returns
returns g c =
    let call = c.book_bytes-told in
    works _ _ _ (λ ended book after. (after ≡ book) × Writes (IsBookText c.args.text book) (g.W.Write.contents c.args.out.now) (g.W.Write.contents call.new.out) ended) _ _ _
    (inl refl) c.in_ok-book.book call.new.book _ c.in_ok-book.ensures.opens c.into_connection.ensures c.close.ensures
    (KeepsBook-changes _ _ _ call.ensures.writes) call.ensures.stop call.ensures.cause

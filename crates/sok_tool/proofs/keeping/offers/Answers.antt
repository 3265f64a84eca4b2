use Rattle.sok_settle.specs.Offers.{OffersBytes, WritesOffers}
use Rattle.sok_tool.proofs.Working.{without_book, works_with_file}
use Rattle.sok_tool.proofs.keeping.offers.Goals as goal

pub returns-in_err-book : goal.returns-in_err-book
returns-in_err-book g c = without_book _ _ _ _ _ _ _ c.from_residual.ensures.1 c.in_err-book.ensures.refused

pub returns : goal.returns
returns g c =
    let call = c.offers_bytes-ended in
    works_with_file _ _ _ (g.F.Input.Read.remaining c.in_ok-book.input) c.in_ok-book.ensures.reads OffersBytes
    (λ known ended book after. WritesOffers book known after (g.W.Write.contents c.args.out.now) (g.W.Write.contents call.new.out) ended) _ _ _ c.told_by-told.ensures
    c.in_ok-book.book
    call.new.book _ c.in_ok-book.ensures.opens c.into_connection.ensures c.close.ensures call.ensures.writes call.ensures.stop call.ensures.cause

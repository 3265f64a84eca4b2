use Rattle.std.proofs.Common.{◌∙◌, ap}
use Rattle.sok_book.specs.BookTexts.{book_text}
use Rattle.sok_book.specs.Records.{pages_of}
use Rattle.sok_store.proofs.Calls.{finds_keeps}
use Rattle.sok_keep.proofs.Ending.{book_unread}
use Rattle.sok_keep.proofs.Showing.{tells_all}
use Rattle.sok_keep.proofs.show.told.Goals as goal

pub returns-in_ok-book_text-in-Ok-clause-gives : goal.returns-in_ok-book_text-in-Ok-clause-gives
returns-in_ok-book_text-in-Ok-clause-gives g c clean book holds =
    let (are, held) = finds_keeps _ _ _ c.in-Ok.ensures.listed clean book holds in
    let text = c.new.ensures.text ∙ c.in_ok-book_text-in-Ok.ensures ∙ ap (λ records. book_text c.args.text (pages_of records)) c.deref.ensures.value in
    (tells_all c.args.text book c.in-Ok.records.items c.new.result are text c.new.ensures.status, held)

pub returns-in-Err-clause-reads : goal.returns-in-Err-clause-reads
returns-in-Err-clause-reads g c = rw c.from.ensures (book_unread c.in-Err.fault)

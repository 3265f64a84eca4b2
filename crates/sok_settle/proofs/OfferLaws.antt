-- What holds of a book after lines of offers were gone through.
use Rattle.std.proofs.Common.{ℕ, List, [], Option, Some, None, Bool, true, Ok, Err, IsSomeAnd, refl, slice_get, subst, sym}
use Rattle.sok_book.specs.Books.{Book}
use Rattle.sok_book.specs.Commands.{offer}
use Rattle.sok_engine.specs.declared.fault.ToolFault.TheVariants as tool
use Rattle.sok_store.specs.Calls.{id_number}
use Rattle.sok_store.specs.Histories.{IsMadeOf}
use Rattle.sok_store.specs.Histories as histories
use Rattle.sok_settle.specs.Going.{none}
use Rattle.sok_settle.specs.Laws.{OffersAreSome, OffersFold, OffersKeepTruth}
use Rattle.sok_settle.specs.Offers.{AnswersOffer, Stays, full_lines, is_refused, is_taken, line_id, line_step, line_text}
use Rattle.sok_settle.proofs.Stepping.{ends_some, made_true, some_made}

pub offers-are-some : OffersAreSome
offers-are-some known book after old new (Ok status) (bytes, told, it) =
    let (few, end, same, says, written) = it.ended in (bytes, told, (it.count, it.text, it.all, it.before, it.gone, same))
offers-are-some known book after old new (Err tool.ReadFailed) (bytes, told, it) =
    let (none_done, same, keeps) = it.ended in (bytes, told, (0, [], true, book, none, same))
offers-are-some known book after old new (Err tool.TooMuch) (bytes, told, it) =
    let (longer, none_done, same, keeps) = it.ended in (bytes, told, (0, [], true, book, none, same))
offers-are-some known book after old new (Err fault) (bytes, told, it) = (
  bytes,
  told,
  ends_some (line_step (full_lines bytes)) (λ n. Stays) (λ n b. refl) book it.before after it.count it.text it.all old new fault it.gone it.ended,
)

answer_made : (book before after : Book) (line told : List ℕ) (taken : Bool) → IsMadeOf book before
    → AnswersOffer (line_id line) (line_text line) before told taken after → IsMadeOf book after
answer_made book before after line told taken made (is_taken answer (letters, spelled, tells) says is) =
    histories.more before after made (offer (id_number (line_id line)) letters tells.offer tells.offered)
answer_made book before after line told taken made (is_refused fault answers other says is same) = subst (IsMadeOf book) (sym same) made

line_made : (book before after : Book) (o : Option (List ℕ)) (told : List ℕ) (taken : Bool) → IsMadeOf book before
    → IsSomeAnd o (λ line. AnswersOffer (line_id line) (line_text line) before told taken after) → IsMadeOf book after
line_made book before after None told taken made never = absurd never
line_made book before after (Some line) told taken made answers = answer_made book before after line told taken made answers

pub offers-fold : OffersFold
offers-fold known book after (bytes, told, some) =
    some_made (line_step (full_lines bytes)) (λ n. Stays)
    (λ n start before later line taken made step. line_made start before later (slice_get (full_lines bytes) n) line taken made step)
    (λ n start before later made same. subst (IsMadeOf start) (sym same) made) book after some

pub offers-keep-truth : OffersKeepTruth
offers-keep-truth known book after some = made_true book after (offers-fold known book after some)

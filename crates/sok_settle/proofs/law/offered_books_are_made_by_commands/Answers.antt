use Rattle.sok_settle.proofs.OfferLaws.{offers-are-some, offers-fold, offers-keep-truth}
use Rattle.sok_settle.proofs.law.offered_books_are_made_by_commands.Goals as goal

pub returns : goal.returns
returns c = record { some = offers-are-some; folded = offers-fold; truth = offers-keep-truth }

use Rattle.std.proofs.Common.{inl, inr, w64}
use Rattle.std.proofs.lemmas.Int.{to_z-of_z}
use Rattle.sok_store.proofs.Calls.{stops_less}
use Rattle.sok_store.proofs.book.Book.offer.Goals as goal

pub returns-in-Ok-clause-offered : goal.returns-in-Ok-clause-offered
returns-in-Ok-clause-offered g c clean book holds =
    let done = rw (to_z-of_z w64 c.args.id c.ranges.id) at c.in-Ok.ensures.offered in
    let (after, told, shows) = done clean book holds in (after, told.offered, shows)

pub returns-in-Ok-clause-stop : goal.returns-in-Ok-clause-stop
returns-in-Ok-clause-stop g c =
    stops_less _ _ _ _ (λ book after made. (made.0.offer, made.1.offered)) (rw (to_z-of_z w64 c.args.id c.ranges.id) at c.in-Ok.ensures.stop)

pub returns-in-Err-clause-refused : goal.returns-in-Err-clause-refused
returns-in-Err-clause-refused g c = rw (to_z-of_z w64 c.args.id c.ranges.id) at c.in-Err.ensures.refused

pub returns-in-Err-clause-stop : goal.returns-in-Err-clause-stop
returns-in-Err-clause-stop g c =
    stops_less _ _ _ _ (λ book after made. (made.0.offer, made.1.offered)) (rw (to_z-of_z w64 c.args.id c.ranges.id) at c.in-Err.ensures.stop)

pub returns-in-Err-clause-cause : goal.returns-in-Err-clause-cause
returns-in-Err-clause-cause g c database clean book holds =
    let cause = rw (to_z-of_z w64 c.args.id c.ranges.id) at c.in-Err.ensures.cause in
    elim (cause database clean book holds) [
      | inl (after, made, big) ↦ inl (after, (made.0.offer, made.1.offered), big)
      | inr why ↦ inr why
    ]

use Rattle.std.proofs.Common.{w64}
use Rattle.std.proofs.lemmas.Int.{to_z-of_z}
use Rattle.sok_store.proofs.book.Book.offer_with_best.Goals as goal

pub returns : goal.returns
returns g c =
    let runs = rw (to_z-of_z w64 c.args.id c.ranges.id) at c.offer_to.ensures.runs in
    rw (← c.self.view_is) (record { offered = runs.done; refused = runs.refused; shows = c.offer_to.ensures.shows; stop = runs.stop; cause = runs.cause })

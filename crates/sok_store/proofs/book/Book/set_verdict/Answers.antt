use Rattle.std.proofs.Common.{w64}
use Rattle.std.proofs.lemmas.Int.{to_z-of_z}
use Rattle.sok_store.proofs.book.Book.set_verdict.Goals as goal

pub returns : goal.returns
returns g c =
    let runs = rw (to_z-of_z w64 c.args.id c.ranges.id) at c.set_verdict_to.ensures in
    rw (← c.self.view_is) (record { set = runs.done; refused = runs.refused; stop = runs.stop; cause = runs.cause })

use Rattle.std.proofs.Common.{w64}
use Rattle.std.proofs.lemmas.Int.{to_z-of_z}
use Rattle.sok_store.proofs.book.Book.get.Goals as goal

pub returns : goal.returns
returns g c =
    let read = rw (to_z-of_z w64 c.args.id c.ranges.id) at c.record_at.ensures in
    rw (← c.self.view_is) (record { found = read.found; refused = read.refused; stop = read.stop; cause = read.cause })

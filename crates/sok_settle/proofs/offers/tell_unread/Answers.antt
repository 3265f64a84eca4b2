use Rattle.std.proofs.Common.{inl, inr, refl, w64}
use Rattle.std.proofs.lemmas.Int.{to_z-of_z}
use Rattle.std.proofs.KnownBytes.{Keeps-refl}
use Rattle.sok_settle.proofs.offers.tell_unread.Goals as goal

pub returns-in-Memory : goal.returns-in-Memory
returns-in-Memory g c = inl (c.in-Memory.is, refl, Keeps-refl (g.W.Write.contents c.args.out.now))

pub returns-in_default : goal.returns-in_default
returns-in_default g c = inr (c.in_default.not-Memory, rw (c.from.ensures, to_z-of_z w64 c.args.id c.ranges.id) at c.tell_fault.ensures)

use Rattle.std.proofs.Common.{Err, ap, inl, inr, sym, w64}
use Rattle.std.proofs.lemmas.Int.{to_z-of_z}
use Rattle.std.proofs.KnownBytes.{Keeps-refl}
use Rattle.sok_engine.specs.Faults.{of_book}
use Rattle.sok_settle.proofs.offers.tell_refused.Goals as goal

pub returns-in-Memory : goal.returns-in-Memory
returns-in-Memory g c = inl (inl c.in-Memory.is, ap (λ f. Err (of_book f)) (sym c.in-Memory.is), Keeps-refl (g.W.Write.contents c.args.out.now))

pub returns-in-Database : goal.returns-in-Database
returns-in-Database g c = inl (inr c.in-Database.is, ap (λ f. Err (of_book f)) (sym c.in-Database.is), Keeps-refl (g.W.Write.contents c.args.out.now))

pub returns-in_default : goal.returns-in_default
returns-in_default g c =
    inr (
      λ outside. elim outside [ inl memory ↦ c.in_default.not-Memory memory | inr database ↦ c.in_default.not-Database database ],
      rw (c.from.ensures, to_z-of_z w64 c.args.id c.ranges.id) at c.tell_fault.ensures,
    )

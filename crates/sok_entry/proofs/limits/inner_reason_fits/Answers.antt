use Rattle.std.proofs.Common.{◌↔◌, ◌∷◌, All, IsTrue, length, subst, sym, inl, inr}
use Rattle.sok_entry.specs.Text.{IsSmall, numbers_of_reason, reason_alike}
use Rattle.sok_entry.proofs.limits.inner_reason_fits.Goals as goal

pub returns-in-Crowd : goal.returns-in-Crowd
returns-in-Crowd c =
    let fits = c.counted_fits.result in
    let tells = subst (λ members. IsTrue fits ↔ All IsSmall (length members ∷ members)) c.as_slice.ensures c.counted_fits.ensures in
    elim c.in-Crowd.is [
      | inl crowd ↦ subst (λ reason. IsTrue fits ↔ All IsSmall (numbers_of_reason (reason_alike reason))) (sym crowd) tells
      | inr frozen ↦ subst (λ reason. IsTrue fits ↔ All IsSmall (numbers_of_reason (reason_alike reason))) (sym frozen) tells
    ]

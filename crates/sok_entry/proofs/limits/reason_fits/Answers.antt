use Rattle.std.proofs.Common.{◌↔◌, ◌∷◌, ◌++◌, [], All, IsTrue, length, subst, sym, inl, inr}
use Rattle.std.proofs.lemmas.List.Elements.{All-nil}
use Rattle.sok_entry.specs.Text.{IsSmall, FitsInner, FitsReason}
use Rattle.sok_entry.proofs.limits.reason_fits.Goals as goal

pub returns-in-Crowd : goal.returns-in-Crowd
returns-in-Crowd c =
    let fits = c.counted_fits.result in
    let tells = subst (λ members. IsTrue fits ↔ All IsSmall (length members ∷ members)) c.as_slice-in-Crowd.ensures c.counted_fits.ensures in
    elim c.in-Crowd.is [
      | inl crowd ↦
          subst (λ reason. IsTrue fits ↔ FitsReason reason c.args.boxes) (sym crowd) ((λ yes. (tt, tells.0 yes, All-nil FitsInner)), (λ h. tells.1 h.1))
      | inr frozen ↦
          subst (λ reason. IsTrue fits ↔ FitsReason reason c.args.boxes) (sym frozen) ((λ yes. (tt, tells.0 yes, All-nil FitsInner)), (λ h. tells.1 h.1))
    ]

pub returns-in-Pattern : goal.returns-in-Pattern
returns-in-Pattern c =
    let fits = c.pattern_fits.result in
    let shown = c.as_slice-in-Pattern-2.result.now in
    let by_members = subst (λ members. IsTrue fits ↔ (All IsSmall (length members ∷ members ++ length shown ∷ []) × All FitsInner shown))
    c.as_slice-in-Pattern.ensures c.pattern_fits.ensures in
    let members = c.in-Pattern.members in
    let tells = subst (λ inner. IsTrue fits ↔ (All IsSmall (length members ∷ members ++ length inner ∷ []) × All FitsInner inner))
    c.as_slice-in-Pattern-2.ensures by_members in
    subst (λ reason. IsTrue fits ↔ FitsReason reason c.args.boxes) (sym c.in-Pattern.is)
    ((λ yes. let h = tells.0 yes in (tt, h.0, h.1)), (λ h. tells.1 (h.1, h.2)))

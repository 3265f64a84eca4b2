use Rattle.std.proofs.Common.{◌↔◌, ◌∷◌, All, IsTrue, length, subst}
use Rattle.std.proofs.lemmas.List.Elements.{All-append}
use Rattle.sok_entry.specs.Text.{IsSmall, entry_alike, numbers_of_position, numbers_of_reason, reason_alike}
use Rattle.sok_entry.proofs.Fitting.{All-parts, second_decides, first_decides}
use Rattle.sok_entry.proofs.limits.inner_fits.Goals as goal

pub returns-then-position_fits : goal.returns-then-position_fits
returns-then-position_fits c =
    let i = c.args.inner.now in
    let front = numbers_of_position (entry_alike i) in
    let rest = numbers_of_reason (reason_alike i.reason) in
    let first = subst (λ boxes. IsTrue c.position_fits.result ↔ All IsSmall (i.depth ∷ i.player ∷ length boxes ∷ boxes)) c.as_slice.ensures c.position_fits.ensures in
    let position : All IsSmall front = first.0 c.if-position_fits.true in
    second_decides c.inner_reason_fits.result c.inner_reason_fits.ensures (λ h. All-append IsSmall front rest position h) (λ h. (All-parts IsSmall front rest h).1)

pub returns-else-position_fits : goal.returns-else-position_fits
returns-else-position_fits c =
    let i = c.args.inner.now in
    let tells = subst (λ boxes. IsTrue c.position_fits.result ↔ All IsSmall (i.depth ∷ i.player ∷ length boxes ∷ boxes)) c.as_slice.ensures c.position_fits.ensures in
    first_decides c.position_fits.result c.if-position_fits.false tells
    (λ h. (All-parts IsSmall (numbers_of_position (entry_alike i)) (numbers_of_reason (reason_alike i.reason)) h).0)

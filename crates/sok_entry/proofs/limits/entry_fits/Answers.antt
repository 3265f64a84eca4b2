use Rattle.std.proofs.Common.{◌↔◌, ◌∷◌, All, IsTrue, length, subst}
use Rattle.sok_entry.specs.Text.{IsSmall, numbers_of_position, FitsReason}
use Rattle.sok_entry.proofs.Fitting.{FitsEntry-parts, FitsEntry-from_parts, second_decides, first_decides}
use Rattle.sok_entry.proofs.limits.entry_fits.Goals as goal

pub returns-then-position_fits : goal.returns-then-position_fits
returns-then-position_fits c =
    let e = c.args.entry.now in
    let first = subst (λ boxes. IsTrue c.position_fits.result ↔ All IsSmall (e.depth ∷ e.player ∷ length boxes ∷ boxes)) c.as_slice.ensures c.position_fits.ensures in
    let position : All IsSmall (numbers_of_position e) = first.0 c.if-position_fits.true in
    let tells = subst (λ boxes. IsTrue c.reason_fits.result ↔ FitsReason e.reason (length boxes)) c.as_slice-then-position_fits.ensures c.reason_fits.ensures in
    second_decides c.reason_fits.result tells (λ h. FitsEntry-from_parts e position h) (λ h. (FitsEntry-parts e h).1)

pub returns-else-position_fits : goal.returns-else-position_fits
returns-else-position_fits c =
    let e = c.args.entry.now in
    let tells = subst (λ boxes. IsTrue c.position_fits.result ↔ All IsSmall (e.depth ∷ e.player ∷ length boxes ∷ boxes)) c.as_slice.ensures c.position_fits.ensures in
    first_decides c.position_fits.result c.if-position_fits.false tells (λ h. (FitsEntry-parts e h).0)

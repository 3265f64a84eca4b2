use Rattle.std.proofs.Common.{◌∷◌, All, length}
use Rattle.sok_entry.specs.Text.{IsSmall}
use Rattle.sok_entry.proofs.Fitting.{pattern-from_parts, pattern-parts, second_decides, first_decides}
use Rattle.sok_entry.proofs.limits.pattern_fits.Goals as goal

pub returns-then-counted_fits : goal.returns-then-counted_fits
returns-then-counted_fits c =
    let members = c.args.members.now in
    let inner = c.args.inner.now in
    let first : All IsSmall (length members ∷ members) = c.counted_fits.ensures.0 c.if-counted_fits.true in
    second_decides c.inner_fit.result c.inner_fit.ensures (λ h. pattern-from_parts members inner first h) (λ h. (pattern-parts members inner h).1)

pub returns-else-counted_fits : goal.returns-else-counted_fits
returns-else-counted_fits c =
    first_decides c.counted_fits.result c.if-counted_fits.false c.counted_fits.ensures (λ h. (pattern-parts c.args.members.now c.args.inner.now h).0)

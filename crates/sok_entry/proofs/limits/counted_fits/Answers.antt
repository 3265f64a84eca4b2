use Rattle.std.proofs.Common.{length}
use Rattle.std.proofs.lemmas.List.Elements.{All-cons, All-tail}
use Rattle.sok_entry.specs.Text.{IsSmall}
use Rattle.sok_entry.proofs.Fitting.{second_decides}
use Rattle.sok_entry.proofs.limits.counted_fits.Goals as goal

pub returns-then-is_short : goal.returns-then-is_short
returns-then-is_short c =
    let numbers = c.args.numbers.now in
    let short : IsSmall (length numbers) = c.is_short.ensures.0 c.if-is_short.true in
    second_decides c.are_small.result c.are_small.ensures (λ h. All-cons IsSmall (length numbers) numbers short h)
    (λ h. All-tail IsSmall (length numbers) numbers h)

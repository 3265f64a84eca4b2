use Rattle.std.proofs.Common.{All}
use Rattle.std.proofs.lemmas.List.Elements.{All-append}
use Rattle.sok_entry.specs.Text.{IsSmall}
use Rattle.sok_entry.proofs.Fitting.{All-parts, second_decides, first_decides}
use Rattle.sok_entry.proofs.limits.both_are_small.Goals as goal

pub returns-then-are_small : goal.returns-then-are_small
returns-then-are_small c =
    let u = c.args.u.now in
    let v = c.args.v.now in
    let first : All IsSmall u = c.are_small.ensures.0 c.if-are_small.true in
    second_decides c.are_small-then-are_small.result c.are_small-then-are_small.ensures (λ h. All-append IsSmall u v first h) (λ h. (All-parts IsSmall u v h).1)

pub returns-else-are_small : goal.returns-else-are_small
returns-else-are_small c = first_decides c.are_small.result c.if-are_small.false c.are_small.ensures (λ h. (All-parts IsSmall c.args.u.now c.args.v.now h).0)

use Rattle.std.proofs.Common.{[], ◌∷◌, All, length}
use Rattle.std.proofs.lemmas.List.Elements.{All-append}
use Rattle.sok_entry.specs.Text.{IsSmall}
use Rattle.sok_entry.proofs.Fitting.{All-parts, second_decides, first_decides}
use Rattle.sok_entry.proofs.limits.position_fits.Goals as goal

pub returns-then-are_small : goal.returns-then-are_small
returns-then-are_small c =
    let boxes = c.args.boxes.now in
    let starts = c.args.depth ∷ c.args.player ∷ [] in
    let counted = length boxes ∷ boxes in
    let first : All IsSmall starts = c.are_small.ensures.0 c.if-are_small.true in
    second_decides c.counted_fits.result c.counted_fits.ensures (λ h. All-append IsSmall starts counted first h) (λ h. (All-parts IsSmall starts counted h).1)

pub returns-else-are_small : goal.returns-else-are_small
returns-else-are_small c =
    let boxes = c.args.boxes.now in
    first_decides c.are_small.result c.if-are_small.false c.are_small.ensures
    (λ h. (All-parts IsSmall (c.args.depth ∷ c.args.player ∷ []) (length boxes ∷ boxes) h).0)

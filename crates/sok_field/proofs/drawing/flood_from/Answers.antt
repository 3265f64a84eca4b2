use Rattle.std.proofs.Common.{◌≡◌, ◌↔◌, subst, true}
use Rattle.sok_rules.specs.declared.cell.Spot.{Spot}
use Rattle.sok_field.specs.Fields.{has}
use Rattle.sok_field.specs.Ways.{Joined}
use Rattle.sok_field.proofs.Drawings.{Draws-joined}
use Rattle.sok_field.proofs.drawing.flood_from.Goals as goal

pub returns : goal.returns
returns c = λ lets draws.
    let free = c.args.free.now in
    let seen = c.flood.new.self in
    let joined = subst (λ p. (s : Spot) → (has seen s ≡ true) ↔ Joined (has free) p s) c.spot.ensures.spot c.flood.ensures in
    Draws-joined c.args.board.now c.requires.accepted.numbered lets free seen c.args.start c.requires.exists draws joined

use Rattle.std.proofs.Common.{◌≡◌, ◌⊎◌, ◌↔◌, subst, true}
use Rattle.sok_rules.specs.declared.cell.Spot.{Spot}
use Rattle.sok_field.specs.Fields.{has}
use Rattle.sok_field.proofs.Drawings.{in_field}
use Rattle.sok_region.proofs.layout.put.Goals as goal

pub put-requires : goal.put-requires
put-requires c =
    let (row, col) = in_field c.args.board.now c.requires.accepted c.args.square c.requires.exists _ c.spot.ensures.spot in
    record { row = row; col = col }

pub returns : goal.returns
returns c =
    subst (λ p. (s : Spot) → (has c.put.new.self s ≡ true) ↔ ((s ≡ p) ⊎ (has c.args.field.now s ≡ true))) c.spot.ensures.spot c.put.ensures

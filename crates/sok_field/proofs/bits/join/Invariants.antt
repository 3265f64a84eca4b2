use Rattle.std.proofs.Common.{◌≡◌, ◌<◌, ◌↔◌, ◌⊎◌, true}
use Rattle.sok_rules.specs.declared.cell.Spot.{Spot}
use Rattle.sok_field.specs.Fields.{has}
use Rattle.sok_field.proofs.bits.join.Given as goal

abbrev pub invariant-loop-r : goal.invariant-loop-r
invariant-loop-r l =
    (s : Spot) → (has l.rows s ≡ true) ↔ ((has l.initial.rows s ≡ true) ⊎ ((s.row < l.r) × (has l.other s ≡ true)))

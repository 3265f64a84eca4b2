use Rattle.std.proofs.Common.{◌≡◌, ◌↔◌, arith, refl, subst, true}
use Rattle.sok_field.specs.Fields.{has}
use Rattle.sok_field.specs.Halves.{halves}
use Rattle.sok_field.proofs.Halves.{apart-col, by-halves, taken-elsewhere, taken-within, then_iff}
use Rattle.sok_field.proofs.field.Field.take.Goals as goal

pub returns-then-spot-lt-COLUMNS : goal.returns-then-spot-lt-COLUMNS
returns-then-spot-lt-COLUMNS c = λ s.
    let low = c.self.inside.low in
    let high = c.self.inside.high in
    let new = c.take.new.self in
    let spot = c.args.spot in
    let left = c.if-spot-lt-COLUMNS.true in
    subst (λ rows. (has (halves new high) s ≡ true) ↔ ((s ≡ spot → ⊥) × (has rows s ≡ true))) c.self.view_is
    (by-halves low high new high (λ t b. (t ≡ spot → ⊥) × (b ≡ true))
    (λ t _. c.take.ensures t) (λ t past. taken-elsewhere _ t spot (apart-col t spot (λ same. omega (arith, same, past, left)))) s)

pub returns-else-spot-lt-COLUMNS : goal.returns-else-spot-lt-COLUMNS
returns-else-spot-lt-COLUMNS c = λ s.
    let low = c.self.inside.low in
    let high = c.self.inside.high in
    let new = c.take_beyond.new.high in
    let spot = c.args.spot in
    let right = c.if-spot-lt-COLUMNS.false in
    subst (λ rows. (has (halves low new) s ≡ true) ↔ ((s ≡ spot → ⊥) × (has rows s ≡ true))) c.self.view_is
    (by-halves low high low new (λ t b. (t ≡ spot → ⊥) × (b ≡ true))
    (λ t inside. taken-elsewhere _ t spot (apart-col t spot (λ same. omega (arith, same, inside, right))))
    (λ t past. then_iff (c.take_beyond.ensures _) (taken-within _ t spot _ past (omega (arith, right)) refl)) s)

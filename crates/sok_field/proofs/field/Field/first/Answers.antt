use Rattle.std.proofs.Common.{◌≡◌, ◌∙◌, arith, false, subst, sym, true≢false}
use Rattle.std.specs.Prelude.{MatchOption}
use Rattle.sok_rules.specs.declared.cell.Spot.{Spot}
use Rattle.sok_field.specs.Fields.{has, IsFirstSquare}
use Rattle.sok_field.specs.Halves.{halves}
use Rattle.sok_field.proofs.Halves.{first-alone, first-both, first-over, first-upper}
use Rattle.sok_field.proofs.field.Field.first.Goals as goal
use Rattle.sok_field.proofs.field.Field.first.Goals.{in_default-low-via-in-Some-low+else-low-high, in_default-low-via-in_default-low}

pub returns-in_default : goal.returns-in_default
returns-in_default c =
    let low = c.self.inside.low in
    let high = c.self.inside.high in
    let none = subst (λ found. MatchOption found ((s : Spot) → has high s ≡ false) (IsFirstSquare (has high))) c.in_default.is c.first.ensures.first in
    subst (λ rows. MatchOption c.first-low.result ((s : Spot) → has rows s ≡ false) (IsFirstSquare (has rows))) c.self.view_is
    (first-alone low high c.first-low.result c.first-low.ensures.first c.first-low.ensures.narrow none)

pub beyond-requires : goal.beyond-requires
beyond-requires c = c.in-Some.ensures.narrow

pub returns-in-Some-low : goal.returns-in-Some-low
returns-in-Some-low c =
    let low = c.self.inside.low in
    let high = c.self.inside.high in
    subst (λ rows. IsFirstSquare (has rows) c.in-Some-low.low) c.self.view_is
    (first-both low high c.in-Some-low.low c.in-Some.high c.in-Some-low.ensures.narrow c.in-Some-low.ensures.first
    c.in-Some.ensures.first c.if-low-high.true)

pub returns-in_default-low : goal.returns-in_default-low
returns-in_default-low c =
    let low = c.self.inside.low in
    let high = c.self.inside.high in
    subst (λ rows. IsFirstSquare (has rows) c.beyond.result) c.self.view_is (subst (IsFirstSquare (has (halves low high))) (sym c.beyond.ensures)
    (elim c.in_default-low.branch [
      | in_default-low-via-in-Some-low+else-low-high w ↦
          first-over low high w.in-Some-low.low c.in-Some.high w.in-Some-low.ensures.first c.in-Some.ensures.first
          (omega (arith, w.if-low-high.false))
      | in_default-low-via-in_default-low w ↦ first-upper low high c.in-Some.high c.in-Some.ensures.first (λ t there.
          let none = subst (λ found. MatchOption found ((s : Spot) → has low s ≡ false) (IsFirstSquare (has low))) w.in_default-low.is c.first-low.ensures.first in
          absurd (true≢false (sym there ∙ none t)))
    ]))

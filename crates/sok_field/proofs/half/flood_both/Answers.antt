use Rattle.std.proofs.Common.{◌≡◌, ◌≤◌, ◌∙◌, ◌++◌, List, ℕ, ap, arith, drop, false, length, sym, take}
use Rattle.std.proofs.lemmas.List.{length-take-le}
use Rattle.sok_rules.specs.declared.cell.Spot.{Spot}
use Rattle.sok_field.specs.Fields.{has, IsHigh}
use Rattle.sok_field.specs.Halves.{halves}
use Rattle.sok_field.specs.Ways.{way}
use Rattle.sok_field.proofs.Halves.{halves-same}
use Rattle.sok_field.proofs.Heights.{has-blank, has-take, none-take, IsHigh-low, IsHigh-up}
use Rattle.sok_field.proofs.half.flood_both.Goals as goal

-- what a half that was cleared has
none-in : (rows now : List ℕ) → rows ≡ now → ((s : Spot) → has now s ≡ false) → (s : Spot) → has rows s ≡ false
none-in rows now is none s = ap (λ r. has r s) is ∙ none s

pub flood_halves-requires-clause-blank_low : goal.flood_halves-requires-clause-blank_low
flood_halves-requires-clause-blank_low c =
    none-take c.low.inside.rows c.max-height.result (none-in c.low.inside.rows _ c.low.view_is c.clear.ensures)

pub flood_halves-requires-clause-blank_high : goal.flood_halves-requires-clause-blank_high
flood_halves-requires-clause-blank_high c =
    none-take c.high.inside.rows c.max-height.result (none-in c.high.inside.rows _ c.high.view_is c.clear-2.ensures)

-- the free rows that are flooded over
taken : (rows : List ℕ) (height more : ℕ) → IsHigh rows height → height ≤ more → more ≤ length rows → (s : Spot) → has (take more rows) s ≡ has rows s
taken rows height more high up within s = has-take rows more (IsHigh-up rows height more high up within) s

pub flood_halves-requires-clause-from : goal.flood_halves-requires-clause-from
flood_halves-requires-clause-from c =
    let low = c.free_low.inside in
    let high = c.free_high.inside in
    let height = c.max-height.result in
    let low_in = c.free_low.invariant.within in
    let high_in = c.free_high.invariant.within in
    halves-same (take height low.rows) (take height high.rows) low.rows high.rows
    (taken low.rows low.height height c.free_low.invariant (omega (arith, c.max-height.ensures)) (omega (arith, low_in, high_in, c.max-height.ensures)))
    (taken high.rows high.height height c.free_high.invariant (omega (arith, c.max-height.ensures)) (omega (arith, low_in, high_in, c.max-height.ensures)))
    c.args.from ∙ (λ i. has (halves (c.free_low.view_is i) (c.free_high.view_is i)) c.args.from) ∙ c.requires

pub invariant_of-low : goal.invariant_of-low
invariant_of-low c =
    let rows = c.low.inside.rows in
    let height = c.max-height.result in
    let low_in = c.free_low.invariant.within in
    let high_in = c.free_high.invariant.within in
    let long = c.flood_halves.auto.low ∙ length-take-le height rows (omega (arith, low_in, high_in, c.max-height.ensures)) in
    IsHigh-low c.flood_halves.new.low rows height long (none-in rows _ c.low.view_is c.clear.ensures)

pub invariant_of-high : goal.invariant_of-high
invariant_of-high c =
    let rows = c.high.inside.rows in
    let height = c.max-height.result in
    let low_in = c.free_low.invariant.within in
    let high_in = c.free_high.invariant.within in
    let long = c.flood_halves.auto.high ∙ length-take-le height rows (omega (arith, low_in, high_in, c.max-height.ensures)) in
    IsHigh-low c.flood_halves.new.high rows height long (none-in rows _ c.high.view_is c.clear-2.ensures)

pub returns : goal.returns
returns c = λ s.
    let low = c.free_low.inside in
    let high = c.free_high.inside in
    let blank_low = c.low.inside.rows in
    let blank_high = c.high.inside.rows in
    let new_low = c.flood_halves.new.low in
    let new_high = c.flood_halves.new.high in
    let height = c.max-height.result in
    let low_in = c.free_low.invariant.within in
    let high_in = c.free_high.invariant.within in
    let long_low = c.flood_halves.auto.low ∙ length-take-le height blank_low (omega (arith, low_in, high_in, c.max-height.ensures)) in
    let long_high = c.flood_halves.auto.high ∙ length-take-le height blank_high (omega (arith, low_in, high_in, c.max-height.ensures)) in
    let is = halves-same (new_low ++ drop height blank_low) (new_high ++ drop height blank_high) new_low new_high
    (has-blank new_low blank_low height long_low (λ t _. none-in blank_low _ c.low.view_is c.clear.ensures t))
    (has-blank new_high blank_high height long_high (λ t _. none-in blank_high _ c.high.view_is c.clear-2.ensures t)) s in
    let lets : has (halves (take height low.rows) (take height high.rows)) ≡ has (halves c.args.free_low.now c.args.free_high.now) =
    (λ i t. halves-same (take height low.rows) (take height high.rows) low.rows high.rows
    (taken low.rows low.height height c.free_low.invariant (omega (arith, c.max-height.ensures)) (omega (arith, low_in, high_in, c.max-height.ensures)))
    (taken high.rows high.height height c.free_high.invariant (omega (arith, c.max-height.ensures)) (omega (arith, low_in, high_in, c.max-height.ensures)))
    t i) ∙ (λ i. has (halves (c.free_low.view_is i) (c.free_high.view_is i))) in
    let on = c.flood_halves.ensures s in (
      λ e. let (w, leads) = on.0 (sym is ∙ e) in (w, ap (λ through. way through c.args.from w) (sym lets) ∙ leads),
      λ (w, leads). is ∙ on.1 (w, ap (λ through. way through c.args.from w) lets ∙ leads),
    )

use Rattle.std.proofs.Common.{ℕ, ◌≡◌, ◌<◌, ◌^◌, ◌∙◌, sym, ap, rules, true≢false, arith, length, get_or}
use Rattle.sok_field.specs.Fields.{has}
use Rattle.sok_field.proofs.Flooding.{IsSpreading-begun, IsSpreading-spread, more-spread, sum-inside, flood-exact}
use Rattle.sok_field.proofs.flood.sweep.Goals as goal

pub loop-high-init : goal.loop-high-init
loop-high-init c = record {
  low = c.requires.first;
  high = c.requires.last;
  flooding = IsSpreading-begun c.args.free.now c.args.seen.now c.requires.whole c.requires.inside;
}

pub returns-then-is_closed-clause-closed : goal.returns-then-is_closed-clause-closed
returns-then-is_closed-clause-closed c = c.is_closed.ensures.0 c.if-is_closed.true

pub returns-then-is_closed-clause-reaches : goal.returns-then-is_closed-clause-reaches
returns-then-is_closed-clause-reaches c =
    let start = has c.args.seen.now in
    let down = c.sweep_down-end.ensures.goes_on start c.loop-high.invariant.flooding in
    let up = c.sweep_up-end.ensures.goes_on start down.flooding in
    flood-exact c.args.free.now c.sweep_up-end.new.seen start (λ r. (c.type_inv.free r).fits) (c.is_closed.ensures.0 c.if-is_closed.true) up.flooding

pub loop-high-smaller : goal.loop-high-smaller
loop-high-smaller c =
    let start = has c.args.seen.now in
    let down = c.sweep_down-end.ensures.goes_on start c.loop-high.invariant.flooding in
    let up = c.sweep_up-end.ensures.goes_on start down.flooding in
    let rises = down.rises in
    let more = up.more c.if-not-grown.false in
    let inside = sum-inside c.args.free.now c.sweep_up-end.new.seen start up.flooding in
    omega (arith, rises, more, inside)

pub loop-high-smaller-then-not-grown : goal.loop-high-smaller-then-not-grown
loop-high-smaller-then-not-grown c =
    let free = c.args.free.now in
    let start = has c.args.seen.now in
    let seen = c.sweep_up-end.new.seen in
    let out = c.spread_in_place.new.seen in
    let down = c.sweep_down-end.ensures.goes_on start c.loop-high.invariant.flooding in
    let up = c.sweep_up-end.ensures.goes_on start down.flooding in
    let rises = down.rises in
    let rises_too = up.rises in
    let long : length out ≡ length seen = omega arith in
    let fits : (r : ℕ) → get_or free r 0 < 2 ^ 64 = λ r. (c.type_inv.free r).fits in
    let round = c.spread_in_place.ensures in
    let more = more-spread free seen out start long fits round up.flooding (λ same.
    let closed = c.is_closed.ensures.1 (λ r. ap (λ rows. get_or rows r 0) same ∙ round r) in
    true≢false (sym closed ∙ c.if-is_closed.false)) in
    let inside = sum-inside free out start (IsSpreading-spread free seen out start long fits round up.flooding) in
    omega (arith, rises, rises_too, more, inside)

pub loop-high-preserved : goal.loop-high-preserved
loop-high-preserved c =
    let start = has c.args.seen.now in
    let down = c.sweep_down-end.ensures.goes_on start c.loop-high.invariant.flooding in
    let up = c.sweep_up-end.ensures.goes_on start down.flooding in
    record { low = search rules; high = search rules; flooding = up.flooding }

pub loop-high-preserved-then-not-grown : goal.loop-high-preserved-then-not-grown
loop-high-preserved-then-not-grown c =
    let start = has c.args.seen.now in
    let down = c.sweep_down-end.ensures.goes_on start c.loop-high.invariant.flooding in
    let up = c.sweep_up-end.ensures.goes_on start down.flooding in
    record {
      low = search rules;
      high = search rules;
      flooding = IsSpreading-spread c.args.free.now c.sweep_up-end.new.seen c.spread_in_place.new.seen start (omega arith)
          (λ r. (c.type_inv.free r).fits) c.spread_in_place.ensures up.flooding;
    }

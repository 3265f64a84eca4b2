use Rattle.std.proofs.Common.{true≢false, sym, refl, arith}
use Rattle.sok_field.proofs.Closed.{closed-lanes, lanes-closed}
use Rattle.sok_field.proofs.Rounds.{every-row}
use Rattle.sok_field.proofs.spread.is_closed.Goals as goal

pub returns-then-rows-eq0 : goal.returns-then-rows-eq0
returns-then-rows-eq0 c =
    let seen = c.args.seen.now in
    (λ _. every-row seen c.args.free.now seen c.requires (λ r below. absurd (omega arith)), λ _. refl)

pub returns-then-changed-ne0 : goal.returns-then-changed-ne0
returns-then-changed-ne0 c = (
  λ e. absurd (true≢false (sym e)),
  λ closed. absurd (c.if-changed-ne0.true (lanes-closed c.args.seen.now c.args.free.now c.spread_rows.result c.loop-r.r c.spread_rows.ensures.long
      (omega arith) c.spread_rows.ensures.rows closed)),
)

pub loop-r-preserved : goal.loop-r-preserved
loop-r-preserved c = (
  omega arith,
  record {
    within = omega arith;
    done = closed-lanes c.args.seen.now c.args.free.now c.spread_rows.result c.loop-r.r c.spread_rows.ensures.long (omega arith) c.spread_rows.ensures.rows
        c.if-changed-ne0.false c.loop-r.invariant.1.done;
  },
)

pub returns : goal.returns
returns c =
    let seen = c.args.seen.now in
    (λ _. every-row seen c.args.free.now seen c.requires (λ r below. c.loop-r-2.invariant.done r (omega arith)), λ _. refl)

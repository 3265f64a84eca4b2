use Rattle.std.proofs.Common.{ℕ, ◌≡◌, arith, length}
use Rattle.std.proofs.lemmas.List.{length-set}
use Rattle.sok_field.proofs.Lanes.{done-lanes}
use Rattle.sok_field.proofs.Rounds.{every-row}
use Rattle.sok_field.proofs.spread.spread.Goals as goal

pub loop-r-preserved : goal.loop-r-preserved
loop-r-preserved c = (
  omega arith,
  record {
    within = omega arith;
    done = done-lanes c.args.seen.now c.args.free.now c.loop-r.out c.spread_rows.result c.loop-r.r c.spread_rows.ensures.long
        (omega (arith, length-set {A = ℕ})) c.spread_rows.ensures.rows c.loop-r.invariant.1.done;
  },
)

pub returns-then-rows-eq0 : goal.returns-then-rows-eq0
returns-then-rows-eq0 c = every-row c.args.seen.now c.args.free.now c.args.out.now (omega arith) (λ r below. absurd (omega arith))

pub returns : goal.returns
returns c =
    let same : length c.args.free.now ≡ length c.loop-r-2.out = omega (arith, length-set {A = ℕ}) in
    every-row c.args.seen.now c.args.free.now c.loop-r-2.out same (λ r below. c.loop-r-2.invariant.done r (omega arith))

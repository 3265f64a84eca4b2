use Rattle.sok_price.proofs.Words.{◌≤◌, ◌∙◌, subst, Contains, arith, length, below_more, get_or_default}
use Rattle.sok_price.proofs.settle.missing.Goals as goal

pub loop-square-preserved : goal.loop-square-preserved
loop-square-preserved c = below_more _ _ c.loop-square.invariant
    (let (k, within, is) = c.mark_rows.ensures.only _ c.if-not-marks-square.false in (k, within, get_or_default c.args.rows.now k _ 0 within ∙ is))

pub returns : goal.returns
returns c = λ k d within.
    let all : length c.args.boxes.now ≤ c.loop-square.square-index = omega arith in
    subst (Contains c.args.rows.now) (get_or_default c.args.boxes.now k 0 d within) (c.loop-square.invariant k (omega (arith, within, all)))

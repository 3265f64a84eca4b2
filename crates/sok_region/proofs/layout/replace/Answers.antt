use Rattle.std.proofs.Common.{ℕ, ◌∙◌, ◌==◌, ap, set, get_or, if◌then◌else◌, arith}
use Rattle.std.proofs.lemmas.List.Edits.{map_over_more}
use Rattle.std.proofs.lemmas.List.{get_or_default}
use Rattle.sok_region.proofs.layout.replace.Goals as goal

abbrev step : ℕ → ℕ → ℕ → ℕ
step from to s = if s == from then to else s

pub loop-square-preserved : goal.loop-square-preserved
loop-square-preserved c =
    let xs = c.args.squares.now in
    let ys = c.loop-square.squares in
    let i = c.loop-square.square-index in
    let x = get_or ys i 0 in
    ap (λ y. set ys i y) c.replaced.ensures ∙ map_over_more (step c.args.from c.args.to) xs ys i x c.loop-square-test.true c.loop-square.invariant
    (get_or_default ys i 0 x (omega arith))

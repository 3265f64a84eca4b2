use Rattle.sok_price.proofs.Words.{AreTabled, AreTold, List, Option, Some, ap, arith, length, replicate, rules, subst, sym, ℕ, ◌++◌, ◌∙◌, ◌≡◌}
use Rattle.sok_price.proofs.CostRows.{AreTabled-spare, AreTold-more}
use Rattle.sok_price.proofs.costs.Costs.tabled.Goals as goal

pub loop-square-preserved : goal.loop-square-preserved
loop-square-preserved c = AreTold-more c.loop-square.invariant c.in_ok-entries.ensures

pub returns-clause-tabled : goal.returns-clause-tabled
returns-clause-tabled c =
    let b = c.args.distances.now.board in
    let all : c.loop-square.square ≡ length b.area = omega (arith, c.requires.squares) in
    let spare : c.in_ok-vec.field-0.items ≡ replicate c.args.goals (Some 0) = search rules in
    let added = ap (λ (row : List (Option ℕ)). c.loop-square.entries.items ++ row) (c.deref.ensures.value ∙ spare) in
    subst (AreTabled b c.args.goals) (sym (c.in_ok-extend_from_slice.ensures.items ∙ added))
    (AreTabled-spare b c.args.goals c.loop-square.entries.items c.requires.goals
    (subst (λ n. AreTold b (λ square. square) c.args.goals n c.loop-square.entries.items) all c.loop-square.invariant))

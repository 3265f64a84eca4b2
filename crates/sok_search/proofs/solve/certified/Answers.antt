use Rattle.std.proofs.Common.{◌≡◌, refl, subst}
use Rattle.sok_cert.specs.Claim.TheVariants as claim
use Rattle.sok_search.specs.Outcomes.{IsFoundWithProof, IsProvedSolved, IsProvedUnsolvable}
use Rattle.sok_search.proofs.Concluding.{kept-least, kept-shown, none-kept, some-kept}
use Rattle.sok_search.proofs.solve.certified.Goals as goal

pub returns-in-Solved : goal.returns-in-Solved
returns-in-Solved c rows limit shown = (
  refl,
  kept-shown (IsProvedSolved rows limit c.in-Solved.dirs.items c.in-Solved.pushes) c.args.entries.items
      (subst (IsFoundWithProof (λ taken. c.args.entries.items ≡ taken) rows limit c.args.wanted) c.in-Solved.is shown),
)

pub returns-in-Unsolvable : goal.returns-in-Unsolvable
returns-in-Unsolvable c rows limit shown = (
  refl,
  kept-shown (IsProvedUnsolvable rows limit) c.args.entries.items
      (subst (IsFoundWithProof (λ taken. c.args.entries.items ≡ taken) rows limit c.args.wanted) c.in-Unsolvable.is shown),
)

pub returns-then-wanted : goal.returns-then-wanted
returns-then-wanted c rows limit shown =
    let (cut, told) = subst (IsFoundWithProof (λ taken. c.args.entries.items ≡ taken) rows limit c.args.wanted) c.in-Limit.is shown in
    let least = c.in-Limit.at_least in (
      cut,
      some-kept rows limit c.args.wanted least (record { claim = claim.Pushes least; entries = c.args.entries }) c.if-wanted.true
          (refl, kept-least rows limit c.args.entries.items c.args.wanted least c.if-wanted.true told),
    )

pub returns-else-wanted : goal.returns-else-wanted
returns-else-wanted c rows limit shown =
    let (cut, told) = subst (IsFoundWithProof (λ taken. c.args.entries.items ≡ taken) rows limit c.args.wanted) c.in-Limit.is shown in
    (cut, none-kept rows limit c.args.wanted c.in-Limit.at_least c.if-wanted.false)

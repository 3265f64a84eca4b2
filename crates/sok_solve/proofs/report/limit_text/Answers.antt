use Rattle.std.proofs.Common.{◌≡◌, ◌∙◌, ap, subst, sym}
use Rattle.sok_solve.specs.Solves.{limit_text}
use Rattle.sok_solve.proofs.report.limit_text.Goals as goal

pub returns-then-bound : goal.returns-then-bound
returns-then-bound c = subst (λ bound. c.into_bytes.result.items ≡ limit_text c.args.states bound c.args.at_least) (sym c.if-bound.true)
    (ap (λ bytes. bytes.items) c.into_bytes.ensures.value ∙ c.in_ok-line.ensures.ok)

use Rattle.std.proofs.Common.{◌≡◌, ◌∙◌, ap, subst, sym}
use Rattle.sok_search.specs.declared.finding.Finding.{Finding}
use Rattle.sok_solve.specs.Solves.{answer_of, solution_text}
use Rattle.sok_solve.proofs.Solving.{same_answer}
use Rattle.sok_solve.proofs.report.report.Goals as goal

pub returns-in_ok-text-in-Solved : goal.returns-in_ok-text-in-Solved
returns-in_ok-text-in-Solved c =
    let found = c.in-Solved in
    let words = c.new.ensures.text ∙ c.in_ok-text-in-Solved.ensures ∙ ap (λ w. solution_text c.args.level.now w found.pushes) c.as_slice.ensures.value in
    subst (λ (it : Finding). c.new.result ≡ answer_of c.args.level.now c.args.task.now it) (sym found.is) (same_answer _ _ _ _ words c.new.ensures.status)

use Rattle.std.proofs.Common.{◌≡◌, ◌⊎◌, ap, sym, ◌∙◌, subst, true≢false}
use Rattle.sok_book.specs.Books.{Solution}
use Rattle.sok_book.specs.declared.fault.BookFault.TheVariants.{Memory}
use Rattle.sok_book.specs.Refusals.{IsNoSolution}
use Rattle.sok_store.proofs.Parsed.{solution_never}
use Rattle.sok_store.proofs.parsing.is_solution.Goals as goal

pub returns-in_default : goal.returns-in_default
returns-in_default c =
    let letters : c.deref.result.now ≡ c.args.best.now.letters = c.deref.ensures.value ∙ ap (λ (s : Solution). s.letters) c.best.view_is in
    let refused = subst (λ w. (c.in-Err.fault ≡ Memory) ⊎ IsNoSolution c.args.level.now w c.in-Err.fault) letters c.in-Err.ensures.refused in (
      λ yes. absurd (true≢false (sym yes)),
      λ kept. absurd (solution_never c.args.level.now c.args.best.now c.in-Err.fault c.in_default.not-Memory refused kept),
    )

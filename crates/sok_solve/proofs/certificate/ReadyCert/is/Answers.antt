use lib.Pointwise.{bytes_decides}
use Rattle.std.proofs.Common.{◌∙◌, ◌++◌, Some, ap, sym}
use Rattle.std.proofs.lemmas.Bool.Decides.{Decides-eqb}
use Rattle.std.proofs.lemmas.Slice.Eq.{strip_prefix_is}
use Rattle.sok_solve.proofs.certificate.ReadyCert.is.Goals as goal

pub returns-in-Some : goal.returns-in-Some
returns-in-Some c = λ same.
    let front = c.as_slice.result.now in
    let lines = c.in-Some.lines.now in
    let cut = strip_prefix_is Decides-eqb c.args.bytes.now front (Some c.in-Some.lines) c.in-Some.ensures.cases in
    let ends = (bytes_decides lines c.as_slice-in-Some.result.now).0 (sym c.eq.ensures ∙ same) ∙ c.as_slice-in-Some.ensures.value in
    cut ∙ ap (λ l. front ++ l) ends ∙ ap (λ l. l ++ c.self.inside.lines.items) c.as_slice.ensures.value ∙ c.self.view_is

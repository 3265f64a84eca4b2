use Rattle.std.proofs.Common.{◌≡◌, ◌∙◌, ◌++◌, subst}
use Rattle.std.proofs.lemmas.Result.{on_err_weaker}
use Rattle.sok_engine.specs.Written.{AppendsFront}
use Rattle.sok_solve.proofs.Lines.{second-failed}
use Rattle.sok_solve.proofs.certificate.ReadyCert.write.Goals as goal

pub returns-clause-err : goal.returns-clause-err
returns-clause-err g c =
    let front = c.deref.result.now in
    let lines = c.deref-2.result.now in
    let text : front ++ lines ≡ c.args.self.now = (λ i. c.deref.ensures.value i ++ c.deref-2.ensures.value i) ∙ c.self.view_is in
    on_err_weaker c.write_whole-2.result
    (λ failed. subst (AppendsFront _ _) text (second-failed _ _ _ front lines c.in_ok-write_whole.ensures.ok failed)) c.write_whole-2.ensures.err

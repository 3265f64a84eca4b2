use Rattle.std.proofs.Common.{◌≡◌, ◌⊎◌, ◌∙◌, Err, ap, inl, inr, subst, sym}
use Rattle.std.proofs.lemmas.Result.{err_from_is_err_and}
use Rattle.sok_cert.specs.CertFault.TheVariants as cert
use Rattle.sok_cert.specs.Verdicts.{IsProofOf, IsRefusedText}
use Rattle.sok_judge.proofs.Checking.{untold}
use Rattle.sok_judge.proofs.check.verdict.Goals as goal

pub returns-in_err-ended : goal.returns-in_err-ended
returns-in_err-ended c = λ text stands.
    let p = err_from_is_err_and c.from_residual.result c.from_residual.ensures.1 in
    untold c.args.stream.board text c.in_err-ended.field-0.0 c.from_residual.result (p.1 ∙ ap Err p.2) (inr (inl (c.in_err-ended.ensures.ends text stands)))

pub returns-in_err-judge : goal.returns-in_err-judge
returns-in_err-judge c = λ text stands.
    let p = err_from_is_err_and c.from_residual-in_err-judge.result c.from_residual-in_err-judge.ensures.1 in
    let fault = c.in_err-judge.field-0.0 in
    let told = subst (λ b. (fault ≡ cert.Memory) ⊎ IsRefusedText b text fault) c.in_ok-ended.ensures.board
    (c.in_err-judge.ensures.refused text (c.in_ok-ended.ensures.ends text stands)) in
    untold c.args.stream.board text fault c.from_residual-in_err-judge.result (p.1 ∙ ap Err p.2)
    (elim told [ inl memory ↦ inl memory | inr unshown ↦ inr (inr unshown) ])

pub returns : goal.returns
returns c = λ text stands.
    let claim = c.in_ok-judge.field-0.claim in
    let shown = subst (λ b. IsProofOf b text claim) c.in_ok-ended.ensures.board
    (c.in_ok-judge.ensures.shown text (c.in_ok-ended.ensures.ends text stands)) in
    inr (subst (IsProofOf c.args.stream.board text) (sym c.claim-2.ensures.claim) shown)

-- A fault of the text, or of the list, is answered as it was told.
use Rattle.std.proofs.Common.{◌≡◌, ◌⊎◌, inr, refl, rules, subst, sym}
use Rattle.std.proofs.lemmas.Result.{err_from_is_err_and}
use Rattle.sok_cert.specs.CertFault.TheVariants as cert
use Rattle.sok_cert.specs.Verdicts.{IsProofOf, IsRefusedText}
use Rattle.sok_book.specs.Commands.{Meets}
use Rattle.sok_book.specs.Refusals.{Differs}
use Rattle.sok_book.proofs.NoProofs.{IsNoProof-claim, IsNoProof-list, IsNoProof-text}
use Rattle.sok_book.proofs.proving.judge_proof.Goals as goal

pub returns-in_err-ended-clause-refused : goal.returns-in_err-ended-clause-refused
returns-in_err-ended-clause-refused c =
    let p = err_from_is_err_and c.from_residual.result c.from_residual.ensures.1 in
    rw (p.1, p.2) (IsNoProof-text c.args.board.now c.args.best c.args.bytes.now c.in_err-ended.field-0.0 c.in_err-ended.ensures.wrong)

pub returns-in_err-judge-in-None-clause-refused : goal.returns-in_err-judge-in-None-clause-refused
returns-in_err-judge-in-None-clause-refused c =
    let p = err_from_is_err_and c.from_residual-in_err-judge-in-None.result c.from_residual-in_err-judge-in-None.ensures.1 in
    let bytes = c.args.bytes.now in
    let ended = c.in_ok-ended.ended in
    let ends = c.in_ok-ended.ensures.ends in
    let fault = c.in_err-judge-in-None.field-0.0 in
    let meets = subst (λ claim. Meets claim c.args.best) c.claim.ensures c.in-None.ensures in
    let told = subst (λ b. (fault ≡ cert.Memory) ⊎ IsRefusedText b bytes fault) c.in_ok-ended.ensures.board (c.in_err-judge-in-None.ensures.refused bytes ends) in
    rw (p.1, p.2) (IsNoProof-list c.args.board.now c.args.best bytes ended.claim ends.entries fault ends.spelled meets told)

pub returns-in-Some-clause-refused : goal.returns-in-Some-clause-refused
returns-in-Some-clause-refused c =
    let ends = c.in_ok-ended.ensures.ends in
    inr (IsNoProof-claim c.args.board.now c.args.best c.args.bytes.now c.in_ok-ended.ended.claim ends.entries c.in-Some.fault ends.spelled
    (subst (λ claim. Differs claim c.args.best c.in-Some.fault) c.claim.ensures c.in-Some.ensures))

pub returns-in_ok-judge-in-None-clause-certificate : goal.returns-in_ok-judge-in-None-clause-certificate
returns-in_ok-judge-in-None-clause-certificate c =
    let b = c.args.board.now in
    let bytes = c.args.bytes.now in
    let claimed = c.in_ok-judge-in-None.field-0.claim in
    let proof = subst (λ b. IsProofOf b bytes claimed) c.in_ok-ended.ensures.board (c.in_ok-judge-in-None.ensures.shown bytes c.in_ok-ended.ensures.ends) in
    record {
      board = b;
      rows_are = refl;
      accepted = search rules;
      shown = subst (IsProofOf b bytes) (sym c.claim-in-None-2.ensures.claim) proof;
    }

use Rattle.std.proofs.Common.{inl, inr, subst, sym}
use Rattle.std.proofs.lemmas.Result.{IfErr-weaker, MatchResult-at_err, MatchResult-weaker}
use Rattle.sok_cert.specs.Refusals.{IsRefused}
use Rattle.sok_cert.proofs.ClosedLaws.{ShowsClaims-accepted}
use Rattle.sok_cert.proofs.check.judged.Goals as goal

pub of-requires : goal.of-requires
of-requires c = MatchResult-weaker c.judge_entries-judged.result c.judge_entries-judged.ensures
    (λ done closed. ShowsClaims-accepted c.args.board.now c.level-level.ensures.accepted c.args.certificate.now.claim c.as_slice.result.now closed) (λ fault refused. tt)

pub returns-clause-refused : goal.returns-clause-refused
returns-clause-refused c =
    let b = c.args.board.now in
    let claim = c.args.certificate.now.claim in
    IfErr-weaker c.of.result _ _ (λ fault said. elim said [
      | inl memory ↦ subst (IsRefused b claim c.args.certificate.now.entries.items) (sym memory) tt
      | inr is ↦ subst (λ es. IsRefused b claim es fault) c.as_slice.ensures.value (MatchResult-at_err _ _ fault is c.judge_entries-judged.ensures)
    ]) c.of.ensures.fault

use Rattle.std.proofs.Common.{inl, inr, subst, sym, true≢false, Result, Ok, Err, IfOk, IsOk, MatchResult, OnOk}
use Rattle.std.proofs.lemmas.Result.{IfErr-weaker, IfOk-weaker, MatchResult-at_err, MatchResult-weaker}
use Rattle.sok_cert.specs.LevelClaims.{LevelClaim}
use Rattle.sok_cert.specs.Streams.{EndsFor, Ending}
use Rattle.sok_cert.specs.Verdicts.{IsProofOf, IsRefusedText}
use Rattle.sok_cert.proofs.ClosedLaws.{ShowsClaims-accepted}
use Rattle.sok_cert.proofs.stream.Ended.judge.Goals as goal

-- what holds where an answer is no fault
all-ok : {E : Type 0} (P : Type 0) (Q : E → Type 0) (r : Result (Unit {0}) E) → IsOk r → MatchResult r (λ _. P) Q → P
all-ok P Q (Ok x) ok told = told
all-ok P Q (Err e) ok told = absurd (true≢false (sym ok))

with-ok : {T E : Type 0} (P : Type 0) (Q : T → Type 0) (r : Result T E) → OnOk r P → IfOk r Q → IfOk r (λ x. P × Q x)
with-ok P Q (Ok x) first second = (first, second)
with-ok P Q (Err e) first second = tt

pub of-requires : goal.of-requires
of-requires c =
    let claim = c.self.inside.claim in
    let judged = c.close-judged in
    let (entries, tells) = c.self.invariant.2 in
    MatchResult-weaker judged.result (judged.ensures claim entries tells)
    (λ done closed. ShowsClaims-accepted c.self.inside.board.now c.self.invariant.0 claim entries closed) (λ fault refused. tt)

pub returns-clause-shown : goal.returns-clause-shown
returns-clause-shown c = λ text ends.
    let b = c.self.inside.board.now in
    let claim = c.self.inside.claim in
    let judged = c.close-judged in
    let here = subst (EndsFor text) (sym c.self.view_is) ends in
    IfOk-weaker c.of.result _ _ (λ accepted (ok, made).
    let closed = all-ok _ _ judged.result ok (judged.ensures claim here.entries here.tells) in
    let shown : IsProofOf b text claim = record {
      entries = here.entries;
      spelled = here.spelled;
      closed = closed;
      true_claim = ShowsClaims-accepted b c.self.invariant.0 claim here.entries closed;
    } in
    subst (λ (e : Ending). IsProofOf e.board text accepted.claim) c.self.view_is (subst (λ (s : LevelClaim). IsProofOf b text s.claim) (sym made) shown))
    (with-ok _ _ c.of.result c.of.ensures.judged c.of.ensures.made)

pub returns-clause-refused : goal.returns-clause-refused
returns-clause-refused c = λ text ends.
    let claim = c.self.inside.claim in
    let here = subst (EndsFor text) (sym c.self.view_is) ends in
    IfErr-weaker c.of.result _ _ (λ fault said. elim said [
      | inl memory ↦ inl memory
      | inr is ↦ inr (subst (λ (e : Ending). IsRefusedText e.board text fault) c.self.view_is (record {
        claim = claim;
        entries = here.entries;
        spelled = here.spelled;
        refused = MatchResult-at_err _ _ fault is (c.close-judged.ensures claim here.entries here.tells);
      }))
    ]) c.of.ensures.fault

use Rattle.std.proofs.Common.{◌≡◌, subst, sym}
use Rattle.std.proofs.lemmas.Result.{IfErr-weaker, IfOk-weaker, MatchResult-at_err, MatchResult-at_ok, MatchResult-from_both, MatchResult-weaker}
use Rattle.sok_cert.specs.Parts.{progressed_of}
use Rattle.sok_cert.specs.Streams.{EndsFor, StandsFor, Streamed, ending_of}
use Rattle.sok_cert.proofs.stream.Stream.ended.Goals as goal

pub ending-requires-clause-entered : goal.ending-requires-clause-entered
ending-requires-clause-entered c =
    let b = c.self.inside.board.now in
    let known = c.self.invariant.3 in
    MatchResult-weaker c.ended-claim.result (c.ended-claim.ensures b known.0 known.1) (λ claim ends. (ends.entries, ends.tells)) (λ fault wrong. tt)

pub returns-clause-ends : goal.returns-clause-ends
returns-clause-ends c = λ text stands.
    let b = c.self.inside.board.now in
    let p = progressed_of c.self.inside.progress in
    let here = subst (λ (s : Streamed). StandsFor s.board text s.progress) (sym c.self.view_is) stands in
    let told = c.ended-claim.ensures b text here in
    MatchResult-from_both c.ending.result _ _
    (IfOk-weaker c.ending.result _ _ (λ ended is.
    let same : ending_of b ended.claim p ≡ ended = λ i. record { board = sym is.1 i; claim = ended.claim; roster = sym is.2 i } in
    subst (EndsFor text) same (MatchResult-at_ok _ _ ended.claim is.0 told)) c.ending.ensures.ended)
    (IfErr-weaker c.ending.result _ _ (λ fault is. MatchResult-at_err _ _ fault is told) c.ending.ensures.fault)

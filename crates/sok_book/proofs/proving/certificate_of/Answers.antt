use Rattle.std.proofs.Common.{[], inr, MatchResult, subst, sym}
use Rattle.std.proofs.lemmas.Result.{MatchResult-weaker}
use Rattle.sok_cert.specs.Reading.{GoesWrong}
use Rattle.sok_cert.specs.Streams.{EndsFor, StandsFor}
use Rattle.sok_book.proofs.proving.certificate_of.Goals as goal
use Rattle.sok_book.proofs.proving.certificate_of.Goals.{After-ended}

-- the end of a stream that took all of the bytes
told : (c : After-ended) → MatchResult c.ended.result (EndsFor c.args.bytes.now) (GoesWrong c.args.bytes.now)
told c =
    let first = c.in_ok-new.field-0 in
    let next = c.in_ok-take.field-0 in
    let empty = subst (λ b. StandsFor b [] first.progress) (sym c.in_ok-new.ensures.board) c.in_ok-new.ensures.nothing in
    let all = c.in_ok-take.ensures.stands [] empty in
    c.ended.ensures.ends c.args.bytes.now (subst (λ b. StandsFor b c.args.bytes.now next.progress) (sym c.in_ok-take.ensures.board) all)

pub returns-clause-ends : goal.returns-clause-ends
returns-clause-ends c = MatchResult-weaker c.ended.result (told c) (λ ended ends. ends) (λ fault wrong. tt)

pub returns-clause-wrong : goal.returns-clause-wrong
returns-clause-wrong c = MatchResult-weaker c.ended.result (told c) (λ ended ends. tt) (λ fault wrong. inr wrong)

use Rattle.std.proofs.Common.{◌≡◌, ◌∙◌, length, sym, subst}
use Rattle.std.proofs.lemmas.Result.{MatchResult-weaker}
use Rattle.sok_entry.specs.Stages.{IsSplit}
use Rattle.sok_cert.specs.Parts.{progressed_of}
use Rattle.sok_cert.specs.Streams.{IsReadSo, StandsBy}
use Rattle.sok_cert.proofs.Streaming.{GoesWrong-now}
use Rattle.sok_cert.proofs.progress.Progress.ended.Goals as goal

pub returns-in-Some : goal.returns-in-Some
returns-in-Some c = λ b text stands. GoesWrong-now b (progressed_of c.args.self.now) text c.in-Some.fault c.in-Some.is stands

pub returns : goal.returns
returns c = λ b text stands.
    let so : IsReadSo b text (progressed_of c.args.self.now) = subst (StandsBy b text (progressed_of c.args.self.now)) c.in_default.is stands in
    let count : length so.passed ≡ c.len.result = so.count ∙ sym c.len.ensures in
    MatchResult-weaker c.ended.result
    (c.ended.ensures text so.passed so.entries count (subst (IsSplit text so.passed) (sym c.as_slice.ensures.value) so.split) so.judged.at)
    (λ claim told. record { entries = so.entries; spelled = told.0; tells = so.judged.tells claim told.1 }) (λ fault wrong. wrong)

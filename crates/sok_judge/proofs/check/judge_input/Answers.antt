use Rattle.std.proofs.Common.{◌≡◌, Ok, Err, ap, subst}
use Rattle.std.proofs.KnownBytes.{Keeps-refl}
use Rattle.std.proofs.lemmas.Result.{err_from_is_err_and}
use Rattle.sok_engine.specs.declared.fault.ToolFault.TheVariants as tool
use Rattle.sok_engine.specs.Limits.{cert_limit}
use Rattle.sok_engine.proofs.Answering.{Writes-read, Writes-unread}
use Rattle.sok_judge.specs.Checks.{TellsVerdict}
use Rattle.sok_judge.proofs.check.judge_input.Goals as goal

pub returns-in_err-stream : goal.returns-in_err-stream
returns-in_err-stream g c =
    let p = err_from_is_err_and c.from_residual.result c.from_residual.ensures.1 in
    rw (p.1, p.2) (Writes-unread cert_limit (TellsVerdict c.args.board.now) _ _ c.in_err-stream.field-0.0
    (λ same. c.in_err-stream.ensures.much (ap Err same)))

pub returns-in_err-answer : goal.returns-in_err-answer
returns-in_err-answer g c =
    let p = err_from_is_err_and c.from_residual-in_err-answer.result c.from_residual-in_err-answer.ensures.1 in
    let read = c.in_ok-stream.ensures.stands in
    let none : c.in_err-answer.field-0.0 ≡ tool.Memory = c.in_err-answer.ensures read.text read.stands in
    rw (p.1, p.2, none) (Keeps-refl _)

pub returns : goal.returns
returns g c =
    let b = c.args.board.now in
    let read = c.in_ok-stream.ensures.stands in
    let told = subst (λ x. TellsVerdict x read.text (Ok c.in_ok-answer.answer)) read.board (c.in_ok-answer.ensures read.text read.stands) in
    Writes-read cert_limit (TellsVerdict b) _ _ _ read.text c.in_ok-answer.answer c.write.result read.all read.few told c.write.ensures

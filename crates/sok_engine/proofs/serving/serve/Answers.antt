use Rattle.std.proofs.Common.{ℕ, List, Ok, Err, ap, subst}
use Rattle.std.proofs.lemmas.Result.{err_from_is_err_and}
use Rattle.sok_engine.specs.Limits.{input_limit}
use Rattle.sok_engine.specs.Written.{Answers, IsFaultOf}
use Rattle.sok_engine.proofs.Answering.{Writes-none, Writes-read, Writes-unread}
use Rattle.sok_engine.proofs.serving.serve.Goals as goal

pub returns-in_err-bytes : goal.returns-in_err-bytes
returns-in_err-bytes g c =
    let p = err_from_is_err_and c.from_residual.result c.from_residual.ensures.1 in
    rw (p.1, p.2) (Writes-unread input_limit (g.E.Engine.answers c.args.engine.now) _ _ c.in_err-bytes.field-0.0
    (λ same. c.in_err-bytes.ensures.much (ap Err same)))

pub returns-in_err-answer : goal.returns-in_err-answer
returns-in_err-answer g c =
    let answers : List ℕ → Answers = g.E.Engine.answers c.args.engine.now in
    let p = err_from_is_err_and c.from_residual-in_err-answer.result c.from_residual-in_err-answer.ensures.1 in
    let read = c.in_ok-bytes in
    let fault = c.in_err-answer.field-0.0 in
    let is : IsFaultOf (answers read.bytes.items) fault = subst (λ bytes. IsFaultOf (answers bytes) fault) c.as_slice.ensures.value c.in_err-answer.ensures in
    rw (p.1, p.2) (Writes-none input_limit answers _ _ read.bytes.items fault read.ensures.all read.ensures.within is)

pub returns : goal.returns
returns g c =
    let answers : List ℕ → Answers = g.E.Engine.answers c.args.engine.now in
    let answer = c.in_ok-answer.answer in
    let read = c.in_ok-bytes in
    let answered : answers read.bytes.items (Ok answer) = subst (λ bytes. answers bytes (Ok answer)) c.as_slice.ensures.value c.in_ok-answer.ensures in
    Writes-read input_limit answers _ _ _ read.bytes.items answer c.write.result read.ensures.all read.ensures.within answered c.write.ensures

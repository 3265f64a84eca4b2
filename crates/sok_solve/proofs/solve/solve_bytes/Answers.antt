use Rattle.std.proofs.Common.{ℕ, List, Ok, Err, ap, subst}
use Rattle.std.proofs.lemmas.Result.{err_from_is_err_and}
use Rattle.sok_engine.specs.Certified.{CertifiedAnswers}
use Rattle.sok_engine.specs.Limits.{input_limit}
use Rattle.sok_engine.specs.Written.{IsFaultOf}
use Rattle.sok_engine.proofs.Certifying.{WritesBoth-none, WritesBoth-read, WritesBoth-unread}
use Rattle.sok_solve.specs.Solves.{IsSolve}
use Rattle.sok_solve.proofs.solve.solve_bytes.Goals as goal

pub returns-in_err-bytes : goal.returns-in_err-bytes
returns-in_err-bytes g c =
    let p = err_from_is_err_and c.from_residual.result c.from_residual.ensures.1 in
    rw (p.1, p.2) (WritesBoth-unread input_limit (IsSolve c.args.task.now) _ _ _ c.in_err-bytes.field-0.0
    (λ same. c.in_err-bytes.ensures.much (ap Err same)))

pub returns-in_err-told : goal.returns-in_err-told
returns-in_err-told g c =
    let solve : List ℕ → CertifiedAnswers = IsSolve c.args.task.now in
    let p = err_from_is_err_and c.from_residual-in_err-told.result c.from_residual-in_err-told.ensures.1 in
    let read = c.in_ok-bytes in
    let fault = c.in_err-told.field-0.0 in
    let is : IsFaultOf (solve read.bytes.items) fault = subst (λ bytes. IsFaultOf (solve bytes) fault) c.as_slice.ensures.value c.in_err-told.ensures in
    rw (p.1, p.2) (WritesBoth-none input_limit solve _ _ _ read.bytes.items fault read.ensures.all read.ensures.within is)

pub returns : goal.returns
returns g c =
    let solve : List ℕ → CertifiedAnswers = IsSolve c.args.task.now in
    let read = c.in_ok-bytes in
    let told : solve read.bytes.items (Ok c.in_ok-told.told) =
    subst (λ bytes. solve bytes (Ok c.in_ok-told.told)) c.as_slice.ensures.value c.in_ok-told.ensures in
    WritesBoth-read input_limit solve _ _ _ read.bytes.items c.in_ok-told.told c.write.result read.ensures.all read.ensures.within told c.write.ensures

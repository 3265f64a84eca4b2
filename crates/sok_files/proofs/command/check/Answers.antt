use Rattle.std.proofs.Common.{ℕ, List}
use Rattle.std.proofs.lemmas.Result.{err_from_is_err_and}
use Rattle.sok_engine.specs.Inputs.{Within}
use Rattle.sok_engine.specs.Limits.{cert_limit, input_limit}
use Rattle.sok_engine.specs.Written.{Answers}
use Rattle.sok_judge.specs.Checks.{IsCheck}
use Rattle.sok_files.specs.Files.{OfFiles}
use Rattle.sok_files.proofs.Filing.{Writes-files, Writes-unopened}
use Rattle.sok_files.proofs.command.check.Goals as goal

pub returns-in_err-input : goal.returns-in_err-input
returns-in_err-input g c =
    let p = err_from_is_err_and c.from_residual.result c.from_residual.ensures.1 in
    let reads = (g.F.Folder.files c.args.rt.now).reads in
    let judged : List ℕ → List ℕ → Answers = λ text. Within input_limit (IsCheck cert_limit c.args.n text) in
    rw (p.1, p.2) (Writes-unopened (OfFiles (reads c.args.path.now) (reads c.args.cert_path.now) judged) _ _ c.in_err-input.ensures.opened)

pub returns-in_err-cert_input : goal.returns-in_err-cert_input
returns-in_err-cert_input g c =
    let p = err_from_is_err_and c.from_residual-in_err-cert_input.result c.from_residual-in_err-cert_input.ensures.1 in
    let reads = (g.F.Folder.files c.args.rt.now).reads in
    let judged : List ℕ → List ℕ → Answers = λ text. Within input_limit (IsCheck cert_limit c.args.n text) in
    rw (p.1, p.2) (Writes-unopened (OfFiles (reads c.args.path.now) (reads c.args.cert_path.now) judged) _ _ c.in_err-cert_input.ensures.opened)

pub returns : goal.returns
returns g c =
    let reads = (g.F.Folder.files c.args.rt.now).reads in
    Writes-files (reads c.args.path.now) (reads c.args.cert_path.now) input_limit (IsCheck cert_limit c.args.n) _ _ _ _ c.check_bytes.result
    c.in_ok-input.ensures.opened c.in_ok-cert_input.ensures.opened c.check_bytes.ensures.writes

use Rattle.std.proofs.lemmas.Result.{err_from_is_err_and}
use Rattle.sok_engine.specs.Inputs.{Within}
use Rattle.sok_engine.specs.Limits.{input_limit}
use Rattle.sok_files.specs.Files.{OfFile}
use Rattle.sok_files.proofs.Filing.{Writes-file, Writes-unopened}
use Rattle.sok_files.proofs.command.serve_file.Goals as goal

pub returns-in_err-input : goal.returns-in_err-input
returns-in_err-input g c =
    let p = err_from_is_err_and c.from_residual.result c.from_residual.ensures.1 in
    let reads = (g.F.Folder.files c.args.rt.now).reads c.args.path.now in
    rw (p.1, p.2) (Writes-unopened (OfFile reads (Within input_limit (g.E.Engine.answers c.args.engine.now))) _ _ c.in_err-input.ensures.opened)

pub returns : goal.returns
returns g c =
    let reads = (g.F.Folder.files c.args.rt.now).reads c.args.path.now in
    Writes-file reads (Within input_limit (g.E.Engine.answers c.args.engine.now)) _ _ _ c.serve.result c.in_ok-input.ensures.opened c.serve.ensures

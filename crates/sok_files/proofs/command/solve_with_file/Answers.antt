use Rattle.std.proofs.Common.{◌≢◌, ◌∙◌, inl, inr, Err, ap, refl, sym}
use Rattle.std.proofs.KnownBytes.{Keeps-refl}
use Rattle.std.proofs.lemmas.Result.{err_from_is_err_and}
use Rattle.sok_engine.specs.Inputs.{Within}
use Rattle.sok_engine.specs.Limits.{input_limit}
use Rattle.sok_solve.specs.Solves.{IsSolve}
use Rattle.sok_files.specs.Files.{IsMade}
use Rattle.sok_files.proofs.Filing.{SolvesTo-file}
use Rattle.sok_files.proofs.command.solve_with_file.Goals as goal

pub returns-in_err-input : goal.returns-in_err-input
returns-in_err-input g c =
    let p = err_from_is_err_and c.from_residual.result c.from_residual.ensures.1 in
    rw (p.1, p.2) (inl (inr (inl (ap Err c.in_err-input.ensures.opened)), Keeps-refl _))

pub returns-in_err-cert_out : goal.returns-in_err-cert_out
returns-in_err-cert_out g c =
    let p = err_from_is_err_and c.from_residual-in_err-cert_out.result c.from_residual-in_err-cert_out.ensures.1 in
    rw (p.1, p.2) (inl (inr (inr (ap Err c.in_err-cert_out.ensures.made)), Keeps-refl _))

pub returns : goal.returns
returns g c =
    let reads = (g.F.Folder.files c.args.rt.now).reads c.args.path.now in
    let makes = IsMade g.F.Output.Write.contents ((g.F.Folder.files c.args.rt.now).makes c.args.cert_path.now) in
    let other : c.args.path.now ≢ c.args.cert_path.now = λ same. c.in_ok-cert_out.ensures.apart (sym same ∙ sym c.collection.ensures) in
    SolvesTo-file reads (Within input_limit (IsSolve c.args.task.now)) (λ cert. (c.args.path.now ≢ c.args.cert_path.now) × makes cert) _ _ _
    c.solve_bytes.result c.in_ok-input.ensures.opened
    (other, (c.in_ok-cert_out.cert_out, c.solve_bytes.new.cert_out, c.in_ok-cert_out.ensures.made, refl)) c.solve_bytes.ensures

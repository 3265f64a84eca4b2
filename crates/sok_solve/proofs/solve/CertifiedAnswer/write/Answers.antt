use Rattle.std.proofs.Common.{◌≡◌, ◌∙◌, Ok, [], ap, refl, subst, sym, unwrap_or}
use Rattle.std.proofs.KnownBytes.{Appends-nil, Keeps-refl}
use Rattle.std.proofs.lemmas.Result.{err_from_is_err_and}
use Rattle.std.specs.Io.KnownBytes.{Appends}
use Rattle.sok_engine.specs.Written.{AppendsFront, WritesOne}
use Rattle.sok_engine.proofs.Certifying.{WritesBoth-answer, WritesBoth-front}
use Rattle.sok_solve.proofs.solve.CertifiedAnswer.write.Goals as goal
use Rattle.sok_solve.proofs.solve.CertifiedAnswer.write.Goals.{in-Some+in_ok-write, in_default}

pub returns-in_err-write : goal.returns-in_err-write
returns-in_err-write g c =
    let p = err_from_is_err_and c.from_residual.result c.from_residual.ensures.1 in
    let cert : c.in-Some.cert ≡ c.args.self.cert = ap (λ cert. unwrap_or cert []) (sym c.in-Some.is) ∙ ap (λ told. told.cert) c.self.view_is in
    rw (p.1, p.2) (WritesBoth-front (λ made. made ≡ Ok c.args.self) c.args.self _ _ refl
    (subst (AppendsFront _ _) cert c.in_err-write.ensures.err) (Keeps-refl _))

pub returns : goal.returns
returns g c =
    let old = g.C.Write.contents c.args.cert_out.now in
    let text = unwrap_or c.self.inside.cert [] in
    let whole : Appends old (g.C.Write.contents c.match-cert.cert_out) text = elim c.match-cert.branch [
      | in-Some+in_ok-write w ↦
          subst (λ out. Appends old (g.C.Write.contents out) text) (sym w.cert_out-is)
          (subst (Appends old _) (ap (λ cert. unwrap_or cert []) (sym w.in-Some.is)) w.in_ok-write.ensures.ok)
      | in_default w ↦
          subst (λ out. Appends old (g.C.Write.contents out) text) (sym w.cert_out-is)
          (subst (Appends old old) (ap (λ cert. unwrap_or cert []) (sym w.in_default.is)) (Appends-nil old))
    ] in
    WritesBoth-answer (λ made. made ≡ Ok c.args.self) c.args.self _ _ c.write-2.result refl
    (subst (Appends old _) (ap (λ told. told.cert) c.self.view_is) whole)
    (subst (λ answer. WritesOne answer (g.W.Write.contents c.args.out.now) (g.W.Write.contents c.write-2.new.out) c.write-2.result)
    (ap (λ told. told.answer) c.self.view_is) c.write-2.ensures)

use Rattle.std.proofs.Common.{◌≡◌, ◌∙◌}
use Rattle.sok_files.specs.Files.{cert_path, files_by}
use Rattle.sok_keep.proofs.Ids.{of_passed}
use Rattle.sok_tool.proofs.CertFiles.{TellsKept-text}
use Rattle.sok_tool.proofs.certs.CertFolderCerts.keep.Goals as goal

pub returns : goal.returns
returns g c rows limit (entries, took, certified) =
    let folder = c.args.self.now.path.now in
    let path = c.as_str.result.now in
    let rt = c.args.self.now.files.now in
    TellsKept-text (files_by g.F.Output.Write.contents (g.F.Folder.files rt)) c.args.self.now.own.path.now folder limit c.args.id
    rows c.args.claim.now entries certified path c.in_ok-cert.cert c.keep_at.result
    (of_passed (λ id. path ≡ cert_path folder id) c.args.id c.ranges.id (c.as_str.ensures.value ∙ c.in_ok-path.ensures)) (c.in_ok-cert.ensures entries took) c.keep_at.ensures

use Rattle.std.proofs.Common.{◌≡◌, ◌∙◌, IfSome, OnErr, Result, Ok, Err, pos, refl, subst, sym, true, true≢false}
use Rattle.std.proofs.lemmas.Result.{err_from_is_err_and}
use Rattle.std.specs.Option.{IsSomeAnd, option_map}
use Rattle.std.specs.Prelude.{string_bytes}
use Rattle.std.specs.Result.{is_err}
use Rattle.sok_files.specs.Files.{MayKeep, cert_path}
use Rattle.sok_tool.proofs.Working.{fileless_too, without_file}
use Rattle.sok_tool.proofs.keeping.book_and_folder.Goals as goal

-- what holds on an error holds of one
of_err : {T E : Type 0} (P : Type 0) (r : Result T E) → is_err r ≡ true → OnErr r P → P
of_err P (Ok x) is holds = absurd (true≢false (sym is))
of_err P (Err e) is holds = holds

pub try_folder-requires : goal.try_folder-requires
try_folder-requires g c =
    let files = g.F.Folder.files c.args.rt.now in
    let keeps = subst (λ o. IfSome (option_map (λ s. string_bytes s) o) (MayKeep files)) c.in-Some.is c.requires.keep in
    subst (λ path. files.may_make (cert_path path (pos 0))) (sym c.as_str.ensures.value) (keeps (pos 0))

pub returns-then-is_err-clause-refused : goal.returns-then-is_err-clause-refused
returns-then-is_err-clause-refused g c =
    let bars = (g.F.Folder.files c.args.rt.now).lacks_folder in
    let barred = of_err (bars c.as_str.result.now) c.try_folder.result (sym c.is_err.ensures.value ∙ c.if-is_err.true) c.try_folder.ensures in
    let folder = subst (λ o. IsSomeAnd (option_map (λ s. string_bytes s) o) bars) (sym c.in-Some.is) (subst bars c.as_str.ensures.value barred) in
    without_file _ _ _ (folder, refl) c.in_ok-book.book c.into_connection.result c.in_ok-book.ensures.opens c.into_connection.ensures c.close.ensures

pub returns-in_err-book-clause-refused : goal.returns-in_err-book-clause-refused
returns-in_err-book-clause-refused g c =
    let p = err_from_is_err_and c.from_residual.result c.from_residual.ensures.1 in
    rw (p.1, p.2) (fileless_too _ _ _ c.in_err-book.ensures.refused)

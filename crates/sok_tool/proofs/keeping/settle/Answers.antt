use Rattle.std.proofs.Common.{◌≡◌, Err}
use Rattle.sok_engine.specs.declared.fault.ToolFault.TheVariants as tool
use Rattle.sok_search.specs.Faults.{IsBadLimit}
use Rattle.std.specs.Option.{option_map}
use Rattle.std.specs.Prelude.{string_bytes}
use Rattle.sqlite.specs.Held.{state}
use Rattle.sok_files.specs.Files.{files_by}
use Rattle.sok_settle.specs.Settles.{WritesSettling}
use Rattle.sok_tool.specs.Certs.{keeping_of}
use Rattle.sok_tool.proofs.Working.{ChangesBook-weaker, without_book, works}
use Rattle.sok_tool.proofs.keeping.settle.Goals as goal

pub returns-in_err-book : goal.returns-in_err-book
returns-in_err-book g c = without_book _ _ _ _ _ _ _ c.from_residual.ensures.1 c.in_err-book.ensures.refused

pub returns : goal.returns
returns g c =
    let call = c.settle_book-ended in
    let limit = c.args.limit in
    let keeping = keeping_of (files_by g.F.Output.Write.contents (g.F.Folder.files c.args.rt.now)) c.args.db.now
    (option_map (λ s. string_bytes s) c.args.folder) in
    let old = state g.S.Store c.in_ok-book.book in
    let new = state g.S.Store call.new.book in
    let before = g.W.Write.contents c.args.out.now in
    let later = g.W.Write.contents call.new.out in
    works _ _ _ (λ ended book after. (IsBadLimit limit → ended ≡ Err tool.BadLimit) × WritesSettling keeping limit c.args.span book after before later ended) _ _ _
    c.told_by-told.ensures c.in_ok-book.book call.new.book _ c.in_ok-book.ensures.opens c.into_connection.ensures c.close.ensures
    (ChangesBook-weaker old new (λ book after. WritesSettling keeping limit c.args.span book after before later call.result) _
    (λ book after made. (call.ensures.bad_limit, made)) call.ensures.writes)
    call.ensures.stop call.ensures.cause

use Rattle.std.proofs.Common.{◌++◌, ◌∙◌, ap, sym, arith}
use Rattle.sok_book.specs.Books.{PageWithId}
use Rattle.sok_book.specs.Exported.{level_export}
use Rattle.sok_book.proofs.Exports.{export-all, export-more}
use Rattle.sok_book.proofs.export.export_text.Goals as goal

pub loop-kept-preserved : goal.loop-kept-preserved
loop-kept-preserved c =
    c.in_ok-push_level.ensures ∙ ap (λ text. text ++ level_export c.args.solutions c.kept-item.result.page) c.loop-kept.invariant
    ∙ sym (export-more c.args.solutions (λ (kept : PageWithId). kept.page) c.args.records.now c.loop-kept.kept-index c.kept-item.result _ (omega arith)
    c.kept-item.is)

pub returns : goal.returns
returns c =
    c.loop-kept.invariant ∙ export-all c.args.solutions (λ (kept : PageWithId). kept.page) c.args.records.now c.loop-kept.kept-index (omega arith)

use Rattle.std.proofs.Common.{◌≡◌, inl, ◌∙◌, ap, subst}
use Rattle.sok_board.specs.Refusals.{IsRefused}
use Rattle.sok_book.specs.Books.{PageWithId}
use Rattle.sok_store.proofs.Proved.{no_board}
use Rattle.sok_store.proofs.proving.judge_record.Goals as goal

pub returns-in-Err-clause-refused : goal.returns-in-Err-clause-refused
returns-in-Err-clause-refused c kept =
    let level : c.kept.inside.level ≡ c.args.kept.now.page.level = ap (λ (k : PageWithId). k.page.level) c.kept.view_is in
    inl (c.from.ensures ∙ no_board c.args.kept.now.page kept c.in-Err.fault (subst (λ rows. IsRefused rows c.in-Err.fault) level c.in-Err.ensures.refused))

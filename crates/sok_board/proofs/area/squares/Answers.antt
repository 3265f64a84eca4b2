use Rattle.std.proofs.Common.{◌≡◌, ◌∙◌, subst, sym, filter, is_some, None}
use Rattle.std.proofs.lemmas.Result.{IfOk-weaker}
use Rattle.sok_board.specs.Area.{IsArea}
use Rattle.sok_board.specs.Tables.{entry}
use Rattle.sok_board.proofs.Floors.{InArea-depths}
use Rattle.sok_board.proofs.Numbering.{IsArea-filter}
use Rattle.sok_board.proofs.area.squares.Goals as goal

pub returns : goal.returns
returns c =
    let rows = c.args.level.now in
    let depths = c.in_ok-found.found.depths.items in
    IfOk-weaker c.keep_found.result (λ v. v.items ≡ filter (λ s. is_some (entry None c.deref.result.now s)) c.args.spots.now) (λ v. IsArea rows v.items)
    (λ v is. subst (IsArea rows) (sym (is ∙ (λ i. filter (λ s. is_some (entry None (c.deref.ensures.value i) s)) (c.requires.places i))))
    (IsArea-filter rows (λ s. is_some (entry None depths s)) c.requires.proper (InArea-depths rows c.requires.proper depths c.in_ok-found.ensures)))
    c.keep_found.ensures

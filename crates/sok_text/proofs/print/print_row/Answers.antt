use Rattle.std.proofs.Common.{◌++◌, ◌∷◌, [], ◌∙◌, sym, ap, arith, take}
use Rattle.std.proofs.lemmas.List.{append_assoc}
use Rattle.sok_text.specs.Canonical.{row_text}
use Rattle.sok_text.proofs.Canonical.{row_text-take_more}
use Rattle.sok_text.proofs.print.print_row.Goals as goal

pub loop-cell-preserved : goal.loop-cell-preserved
loop-cell-preserved c =
    let before = c.args.text.now.items in
    let row = c.args.row.now in
    let front = row_text (take c.loop-cell.cell-index row) in
    c.in_ok-push.ensures.items ∙ ap (λ text. text ++ c.character.result ∷ []) c.loop-cell.invariant
    ∙ append_assoc before front (c.character.result ∷ []) ∙ ap (λ last. before ++ (front ++ last)) c.character.ensures
    ∙ ap (λ line. before ++ line) (sym (row_text-take_more row c.loop-cell.cell-index _ (omega arith)))

use Rattle.std.proofs.Common.{◌++◌, ◌∷◌, [], List, ap, sym, ◌∙◌, arith, take, Vec}
use Rattle.std.proofs.lemmas.List.{append-nil}
use Rattle.std.specs.List.{filter_map, cons_option}
use Rattle.sok_rules.specs.declared.cell.Cell.{Cell}
use Rattle.sok_text.specs.Xsb.{cell_of}
use Rattle.sok_text.proofs.Rows.{filter_map-more}
use Rattle.sok_text.proofs.collection.row_of.Goals as goal
use Rattle.sok_text.proofs.collection.row_of.Goals.{in-Some+in_ok-push-in-Some, in-None}

pub loop-byte-preserved : goal.loop-byte-preserved
loop-byte-preserved c =
    let line = c.args.line.now in
    let i = c.loop-byte.byte-index in
    let none : List Cell = [] in
    let front = filter_map cell_of (take i line) in
    let more = sym (filter_map-more cell_of line i 0 (omega arith)) in
    elim c.match-cell_of.branch [
      | in-Some+in_ok-push-in-Some w ↦ ap (λ (row : Vec Cell _). row.items) w.row-is ∙ w.in_ok-push-in-Some.ensures.items
          ∙ ap (λ row. row ++ w.in-Some.cell ∷ []) c.loop-byte.invariant ∙ ap (λ o. front ++ cons_option o none) w.in-Some.ensures ∙ more
      | in-None w ↦ ap (λ (row : Vec Cell _). row.items) w.row-is ∙ c.loop-byte.invariant ∙ sym (append-nil front)
          ∙ ap (λ o. front ++ cons_option o none) w.in-None.ensures ∙ more
    ]

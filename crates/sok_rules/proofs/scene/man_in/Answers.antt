use Rattle.std.proofs.Common.{◌∙◌, sym, ap, arith, position}
use Rattle.std.proofs.lemmas.List.Quantifiers.{position-Some}
use Rattle.std.specs.List.{list_any}
use Rattle.sok_rules.specs.Squares.{is_man}
use Rattle.sok_rules.proofs.Man.{row_found, col_found, holds-found, col_near}
use Rattle.sok_rules.proofs.scene.man_in.Goals as goal

pub returns-in_err-row : goal.returns-in_err-row
returns-in_err-row c = absurd (row_found is_man c.args.rows.now (omega (arith, c.requires.one_man)) (sym c.in_err-row.ensures))

pub returns-in_err-col : goal.returns-in_err-col
returns-in_err-col c =
    let found = position-Some (λ row. list_any is_man row.items) c.args.rows.now c.in_ok-row.row c.index-rows-row.result (sym c.in_ok-row.ensures) in
    absurd (col_found is_man c.index-rows-row.result.items (ap (λ row. list_any is_man row.items) c.index-rows-row.is ∙ found.1)
    (ap (position is_man) (sym c.deref.ensures.value) ∙ sym c.in_err-col.ensures))

pub overflow_cast-result-2 : goal.overflow_cast-result-2
overflow_cast-result-2 c =
    let found = position-Some (λ row. list_any is_man row.items) c.args.rows.now c.in_ok-row.row c.index-rows-row.result (sym c.in_ok-row.ensures) in
    let near = col_near is_man c.args.rows.now c.index-rows-row.result c.in_ok-row.row c.in_ok-col.col c.requires found.0 c.index-rows-row.is
    (ap (position is_man) (sym c.deref.ensures.value) ∙ sym c.in_ok-col.ensures) in
    omega (arith, near)

pub returns : goal.returns
returns c =
    let found = position-Some (λ row. list_any is_man row.items) c.args.rows.now c.in_ok-row.row c.index-rows-row.result (sym c.in_ok-row.ensures) in
    (holds-found is_man c.args.rows.now c.index-rows-row.result c.in_ok-row.row c.in_ok-col.col found.0 c.index-rows-row.is
    (ap (position is_man) (sym c.deref.ensures.value) ∙ sym c.in_ok-col.ensures)).1

use Rattle.std.proofs.Common.{ap, sym, ◌∙◌, refl, arith, get_or}
use Rattle.sok_rules.specs.Squares.{is_open, is_goal}
use Rattle.sok_rules.specs.Scene.{standing, with_cell}
use Rattle.sok_rules.specs.Levels.{cells_of}
use Rattle.sok_rules.proofs.Grid.{IsWithin-from_holds, row_within-cells_of, col_within-cells_of, cells_of-set, holds-within, row-cells_of}
use Rattle.sok_rules.proofs.scene.put.Goals as goal

pub index_mut-row-requires : goal.index_mut-row-requires
index_mut-row-requires c = omega (
  arith,
  c.args.cells.now.ok.0,
  row_within-cells_of c.args.cells.now.items c.args.spot
      (IsWithin-from_holds is_open _ c.args.spot c.requires),
)

pub index-cell-requires : goal.index-cell-requires
index-cell-requires c =
    let within = IsWithin-from_holds is_open _ _ c.requires in
    omega (arith, c.index_mut-row.result.now.ok.0, col_within-cells_of _ _ _ within c.index_mut-row.ensures.value)

pub index_mut-requires : goal.index_mut-requires
index_mut-requires c =
    let within = IsWithin-from_holds is_open _ _ c.requires in
    omega (arith, c.index_mut-row.result.now.ok.0, col_within-cells_of _ _ _ within c.index_mut-row.ensures.value)

pub returns-clause-goal : goal.returns-clause-goal
returns-clause-goal c =
    let cells = c.args.cells.now.items in
    let spot = c.args.spot in
    let within = IsWithin-from_holds is_open _ spot c.requires in
    let cell = c.index-cell.result.now in
    c.is_goal-goal.ensures ∙ ap is_goal c.index-cell.ensures
    ∙ ap (λ row. is_goal (get_or row spot.col cell))
    (sym (row-cells_of cells spot.row c.index_mut-row.result.now (row_within-cells_of cells spot within) c.index_mut-row.ensures.value))
    ∙ sym (holds-within is_goal (cells_of cells) spot cell within)

pub returns-clause-cells : goal.returns-clause-cells
returns-clause-cells c =
    let cells = c.args.cells.now.items in
    cells_of-set cells c.args.spot c.on.result c.index_mut-row.result.now _
    (IsWithin-from_holds is_open _ c.args.spot c.requires) c.index_mut-row.ensures.value refl
    ∙ ap (with_cell (cells_of cells) c.args.spot) (c.on.ensures ∙ ap (standing c.args.who) (returns-clause-goal c))

use Rattle.std.proofs.Common.{◌≡◌, ◌∙◌, sym, ap, subst, arith, not, None, MatchOption}
use Rattle.sok_rules.specs.Squares.{cell_at, is_open, is_box}
use Rattle.sok_rules.specs.Levels.{cells_of}
use Rattle.sok_rules.specs.Scene.{IsScene, IsBeside, NoneBeside}
use Rattle.sok_rules.proofs.Grid.{holds-some, holds-none, is_open-is}
use Rattle.sok_rules.proofs.Scenes.{near-scene, NoneBeside-closed}
use Rattle.sok_rules.proofs.scene.Scene.open_beside.Goals as goal

pub next-requires-clause-row : goal.next-requires-clause-row
next-requires-clause-row c =
    let scene = subst (λ rows. IsScene rows c.self.inside.man c.self.inside.astray) c.self.view_is c.self.invariant in
    omega (arith, (near-scene c.args.self.now c.self.inside.man c.args.spot c.self.inside.astray scene c.requires).0)

pub next-requires-clause-col : goal.next-requires-clause-col
next-requires-clause-col c =
    let scene = subst (λ rows. IsScene rows c.self.inside.man c.self.inside.astray) c.self.view_is c.self.invariant in
    omega (arith, (near-scene c.args.self.now c.self.inside.man c.args.spot c.self.inside.astray scene c.requires).1)

pub returns-in_err-cell : goal.returns-in_err-cell
returns-in_err-cell c =
    let now = c.args.self.now in
    let beside = c.in_ok-beside.beside in
    let nothing : cell_at now beside ≡ None =
    ap (λ rows. cell_at rows beside) (sym (ap cells_of c.deref.ensures.value ∙ c.self.view_is)) ∙ sym c.cell_in.ensures ∙ c.in_err-cell.was in
    subst (λ r. MatchOption r (NoneBeside now c.args.spot c.args.dir) (IsBeside now c.args.spot c.args.dir)) (sym c.from_residual-in_err-cell.ensures)
    (NoneBeside-closed now c.args.spot beside c.args.dir (sym c.in_ok-beside.ensures) (holds-none is_open now beside nothing))

pub returns-then-is_wall : goal.returns-then-is_wall
returns-then-is_wall c =
    let now = c.args.self.now in
    let beside = c.in_ok-beside.beside in
    let there = ap (λ rows. cell_at rows beside) (sym (ap cells_of c.deref.ensures.value ∙ c.self.view_is)) ∙ sym c.in_ok-cell.ensures in
    NoneBeside-closed now c.args.spot beside c.args.dir (sym c.in_ok-beside.ensures)
    (holds-some is_open now beside c.in_ok-cell.cell there ∙ is_open-is c.in_ok-cell.cell ∙ ap not (sym c.if-is_wall.ensures))

pub returns-else-is_wall : goal.returns-else-is_wall
returns-else-is_wall c =
    let now = c.args.self.now in
    let beside = c.in_ok-beside.beside in
    let there = ap (λ rows. cell_at rows beside) (sym (ap cells_of c.deref.ensures.value ∙ c.self.view_is)) ∙ sym c.in_ok-cell.ensures in
    record {
      is_next = sym c.in_ok-beside.ensures;
      opened = holds-some is_open now beside c.in_ok-cell.cell there ∙ is_open-is c.in_ok-cell.cell ∙ ap not (sym c.if-is_wall.ensures);
      box_there = holds-some is_box now beside c.in_ok-cell.cell there ∙ sym c.is_box.ensures;
    }

use Rattle.std.proofs.Common.{ap, sym, ◌∙◌, subst}
use Rattle.sok_rules.specs.declared.scene.Occupant.TheVariants.{Nobody, Man}
use Rattle.sok_rules.specs.Squares.{holds, is_box}
use Rattle.sok_rules.specs.Scene.{IsScene, with_occupant}
use Rattle.sok_rules.specs.Levels.{cells_of}
use Rattle.sok_rules.proofs.Scenes.{Redraws, IsScene-Redraws, start-Redraws, SameGround-left, walks, man_open}
use Rattle.sok_rules.proofs.scene.Scene.walk.Goals as goal

pub put-requires : goal.put-requires
put-requires c = man_open _ _ _ c.self.invariant

pub put-requires-2 : goal.put-requires-2
put-requires-2 c =
    (SameGround-left _ _ _ _ _ c.self.view_is c.self.invariant c.put.ensures.cells).opened c.args.to ∙ c.requires.opened

leads : (c : goal.After-to-1) → Redraws c.args.self.now (cells_of c.put-2.new.cells.items) c.args.to (holds is_box c.args.self.now) c.self.inside.astray
leads c =
    subst (λ new. Redraws c.args.self.now new c.args.to (holds is_box c.args.self.now) c.self.inside.astray)
    (ap (λ rows. with_occupant (with_occupant rows c.self.inside.man Nobody) c.args.to Man) (sym c.self.view_is)
    ∙ ap (λ rows. with_occupant rows c.args.to Man) (sym c.put.ensures.cells) ∙ sym c.put-2.ensures.cells)
    (walks c.args.self.now c.self.inside.man c.args.to c.self.inside.astray
    (subst (λ rows. IsScene rows c.self.inside.man c.self.inside.astray) c.self.view_is c.self.invariant)
    c.requires.opened c.requires.free)

pub invariant_of-self : goal.invariant_of-self
invariant_of-self c =
    IsScene-Redraws c.args.self.now _ c.self.inside.man c.args.to (holds is_box c.args.self.now) c.self.inside.astray _
    (subst (λ rows. IsScene rows c.self.inside.man c.self.inside.astray) c.self.view_is c.self.invariant) (leads c)

pub returns-clause-ground : goal.returns-clause-ground
returns-clause-ground c = (leads c).ground

pub returns-clause-position : goal.returns-clause-position
returns-clause-position c = start-Redraws c.args.self.now _ c.args.to (holds is_box c.args.self.now) c.self.inside.astray (leads c)

use Rattle.std.proofs.Common.{◌∙◌, sym, ap, subst}
use Rattle.sok_rules.specs.Scene.{IsScene}
use Rattle.sok_rules.specs.Squares.{same_spot}
use Rattle.sok_rules.proofs.Places.{man-start}
use Rattle.sok_rules.proofs.scene.Scene.cell.Goals as goal

pub returns-clause-one_man : goal.returns-clause-one_man
returns-clause-one_man c =
    let scene = subst (λ rows. IsScene rows c.self.inside.man c.self.inside.astray) c.self.view_is c.self.invariant in
    λ s. scene.man_is s ∙ ap (λ man. same_spot man s) (sym (man-start c.args.self.now c.self.inside.man scene.man_is))

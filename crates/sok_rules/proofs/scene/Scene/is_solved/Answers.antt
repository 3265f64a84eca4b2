use Rattle.std.proofs.Common.{subst, eq-eqb, arith}
use Rattle.std.proofs.lemmas.Bool.Decides.{nat_tests}
use Rattle.sok_rules.specs.Scene.{IsScene}
use Rattle.sok_rules.proofs.Scenes.{solved-from_none, none-from_solved}
use Rattle.sok_rules.proofs.scene.Scene.is_solved.Goals as goal

pub returns : goal.returns
returns c =
    let scene = subst (λ rows. IsScene rows c.self.inside.man c.self.inside.astray) c.self.view_is c.self.invariant in (
      λ zero. solved-from_none c.args.self.now c.self.inside.man c.self.inside.astray scene (grind (arith, nat_tests, zero)),
      λ solved. eq-eqb c.self.inside.astray 0 (none-from_solved c.args.self.now c.self.inside.man c.self.inside.astray scene solved),
    )

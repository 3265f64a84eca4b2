use Rattle.std.proofs.Common.{sym, subst}
use Rattle.sok_rules.specs.Squares.{Rows}
use Rattle.sok_rules.specs.Levels.{IsProper}
use Rattle.sok_rules.specs.Scene.{IsScene}
use Rattle.sok_rules.proofs.scene.Scene.restore.Goals as goal

pub look_over-astray-requires : goal.look_over-astray-requires
look_over-astray-requires c = subst IsProper (sym c.rows-rows.ensures.cells) c.rows-rows.ensures.proper

pub invariant_of-self : goal.invariant_of-self
invariant_of-self c = subst (λ (cells : Rows). IsScene cells c.look_over-astray.result.0 c.look_over-astray.result.1)
    (sym c.copy_over.ensures) c.look_over-astray.ensures

use Rattle.std.proofs.Common.{◌≡◌, ◌∙◌, ap, false, subst}
use Rattle.std.specs.Prelude.{MatchOption}
use Rattle.sok_rules.specs.declared.cell.Spot.{Spot}
use Rattle.sok_field.specs.Fields.{has, IsFirstSquare}
use Rattle.sok_field.proofs.Heights.{has-take}
use Rattle.sok_field.proofs.half.Half.first.Goals as goal

pub returns-clause-first : goal.returns-clause-first
returns-clause-first c =
    let half = c.self.inside in
    subst (λ holds. MatchOption c.first.result ((s : Spot) → holds s ≡ false) (IsFirstSquare holds))
    ((λ i s. has-take half.rows half.height c.self.invariant s i) ∙ ap has c.self.view_is) c.first.ensures.first

use Rattle.std.proofs.Common.{◌≡◌, ◌∙◌, length}
use Rattle.std.proofs.lemmas.List.{length-take-le}
use Rattle.sok_field.proofs.Heights.{has-cleared, IsHigh-none}
use Rattle.sok_field.proofs.half.Half.clear.Goals as goal

pub returns : goal.returns
returns c =
    let height = c.self.inside.height in
    let long : length c.clear.new.rows ≡ height = c.clear.auto.rows ∙ length-take-le height c.self.inside.rows c.self.invariant.within in
    has-cleared c.clear.new.rows c.self.inside.rows height c.self.invariant long c.clear.ensures

pub invariant_of-self : goal.invariant_of-self
invariant_of-self c =
    let height = c.self.inside.height in
    let long : length c.clear.new.rows ≡ height = c.clear.auto.rows ∙ length-take-le height c.self.inside.rows c.self.invariant.within in
    IsHigh-none _ (has-cleared c.clear.new.rows c.self.inside.rows height c.self.invariant long c.clear.ensures)

use Rattle.std.proofs.Common.{◌∙◌, arith, sym, subst}
use Rattle.sok_field.specs.Fields.{IsHigh}
use Rattle.sok_field.proofs.Halves.{copied-rows}
use Rattle.sok_field.proofs.half.Half.copy_from.Goals as goal

pub invariant_of-self : goal.invariant_of-self
invariant_of-self c =
    let mine = c.self.inside in
    let other = c.other.inside in
    let same = copied-rows mine.rows other.rows c.copy_from_slice.new.self c.max-height.result mine.height other.height c.self.invariant c.other.invariant
    (omega arith) (omega arith) (omega arith) c.copy_from_slice.ensures.after in
    subst (λ rows. IsHigh rows other.height) (sym same) c.other.invariant

pub returns : goal.returns
returns c =
    let mine = c.self.inside in
    let other = c.other.inside in
    copied-rows mine.rows other.rows c.copy_from_slice.new.self c.max-height.result mine.height other.height c.self.invariant c.other.invariant
    (omega arith) (omega arith) (omega arith) c.copy_from_slice.ensures.after ∙ c.other.view_is

use Rattle.std.proofs.Common.{arith}
use Rattle.sok_field.proofs.half.Half.take.Goals as goal

pub invariant_of-self : goal.invariant_of-self
invariant_of-self c =
    let within = c.self.invariant.within in
    record {
      within = omega (arith, within);
      below = λ s e. c.self.invariant.below s ((c.take.ensures s).0 e).1;
    }

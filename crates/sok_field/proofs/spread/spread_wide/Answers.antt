use Rattle.std.proofs.Common.{arith}
use Rattle.sok_field.proofs.Seams.{AreAcross-more, every-across}
use Rattle.sok_field.proofs.spread.spread_wide.Goals as goal

pub loop-r-init : goal.loop-r-init
loop-r-init c = record {
  low = record { whole = omega arith; done = λ k below. absurd (omega (arith, below)); rest = λ k _. c.spread.ensures k };
  high = record { whole = omega arith; done = λ k below. absurd (omega (arith, below)); rest = λ k _. c.spread-2.ensures k };
}

pub loop-r-preserved : goal.loop-r-preserved
loop-r-preserved c = record {
  low = AreAcross-more c.loop-r.invariant.low (omega arith);
  high = AreAcross-more c.loop-r.invariant.high (omega arith);
}

pub returns : goal.returns
returns c = record {
  low = every-across c.loop-r.invariant.low c.requires.free_low (omega arith);
  high = every-across c.loop-r.invariant.high (omega arith) (omega arith);
}

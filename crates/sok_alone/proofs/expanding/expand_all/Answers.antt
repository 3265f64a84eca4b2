use Rattle.std.proofs.Common.{arith}
use Rattle.std.proofs.lemmas.Grind.{common_steps}
use Rattle.sok_alone.proofs.Growing.{Grows-refl}
use Rattle.sok_alone.proofs.expanding.expand_all.Goals as goal

pub loop-index-init : goal.loop-index-init
loop-index-init g c = record {
  known = c.requires.1.0;
  grows = Grows-refl c.args.known.now;
  followed = λ i key depth below marked. absurd (omega (arith, below));
  within = omega arith;
  workspace = c.requires.1.1;
}

pub returns-clause-tells : goal.returns-clause-tells
returns-clause-tells c = grind (arith, common_steps)

use Rattle.std.proofs.Common.{arith, inl, inr}
use Rattle.sok_field.proofs.OneSquare.{has-within}
use Rattle.sok_field.proofs.Parts.{join-more}
use Rattle.sok_field.proofs.bits.join.Goals as goal

pub loop-r-preserved : goal.loop-r-preserved
loop-r-preserved c = join-more c.args.rows.now c.args.other.now c.loop-r.rows c.loop-r.r (omega arith) c.loop-r.invariant

pub returns : goal.returns
returns c = λ s. (
  λ e. elim ((c.loop-r.invariant s).0 e) [ inl before ↦ inl before | inr (_, there) ↦ inr there ],
  λ one. (c.loop-r.invariant s).1 (elim one [
    | inl before ↦ inl before
    | inr there ↦ let within = has-within c.args.other.now s there in inr (omega (arith, within), there)
  ]),
)

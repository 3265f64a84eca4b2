use Rattle.std.proofs.Common.{inl, inr}
use Rattle.sok_field.proofs.Parts.{span-exact}
use Rattle.sok_field.proofs.spans.put_span.Goals as goal

pub returns : goal.returns
returns c = λ s.
    let joined = c.join.ensures s in
    let bits = span-exact c.args.span c.ones.result c.requires.columns c.ones.ensures s.col in (
      λ e. elim (joined.0 e) [
        | inl before ↦ inl before
        | inr (row, on) ↦ let (from, below) = bits.0 on in inr (row, from, below)
      ],
      λ one. joined.1 (elim one [
        | inl before ↦ inl before
        | inr (row, from, below) ↦ inr (row, bits.1 (from, below))
      ]),
    )

use Rattle.std.proofs.Common.{inl, inr, arith}
use Rattle.sok_field.proofs.Heights.{IsHigh-more}
use Rattle.sok_field.proofs.half.Half.put_span.Goals as goal

pub invariant_of-self : goal.invariant_of-self
invariant_of-self c =
    IsHigh-more c.self.inside.rows c.put_span.new.rows c.self.inside.height c.max-self-inside.result c.args.span.first.row c.self.invariant (omega arith)
    (omega arith) c.max-self-inside.ensures (λ s e. elim ((c.put_span.ensures s).0 e) [
      | inl before ↦ inr before
      | inr (row, _, _) ↦ inl row
    ])

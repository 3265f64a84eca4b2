use Rattle.std.proofs.Common.{ap, inl, inr, arith}
use Rattle.sok_rules.specs.declared.cell.Spot.{Spot}
use Rattle.sok_field.proofs.Heights.{IsHigh-more}
use Rattle.sok_field.proofs.half.Half.put.Goals as goal

pub invariant_of-self : goal.invariant_of-self
invariant_of-self c =
    IsHigh-more c.self.inside.rows c.put.new.rows c.self.inside.height c.max-self-inside.result c.args.spot.row c.self.invariant (omega arith) (omega arith)
    c.max-self-inside.ensures (λ s e. elim ((c.put.ensures s).0 e) [
      | inl same ↦ inl (ap (λ (t : Spot). t.row) same)
      | inr before ↦ inr before
    ])

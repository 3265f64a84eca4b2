use Rattle.std.proofs.Common.{◌≡◌, ◌∙◌, ap, inl, inr, sym, arith, take}
use Rattle.sok_field.specs.Fields.{has}
use Rattle.sok_field.proofs.Heights.{has-take}
use Rattle.sok_field.proofs.half.Half.join.Goals as goal

pub invariant_of-self : goal.invariant_of-self
invariant_of-self c =
    let mine = c.self.invariant.within in
    let others = c.other.invariant.within in
    record {
      within = omega (arith, mine, others, c.max-self-inside.ensures);
      below = λ s e. elim ((c.join.ensures s).0 e) [
        | inl before ↦ let below = c.self.invariant.below s before in omega (arith, below, c.max-self-inside.ensures)
        | inr there ↦
            let below = c.other.invariant.below s (sym (has-take c.other.inside.rows c.other.inside.height c.other.invariant s) ∙ there) in
            omega (arith, below, c.max-self-inside.ensures)
      ];
    }

pub returns : goal.returns
returns c = λ s.
    let mine : has c.self.inside.rows s ≡ has c.args.self.now s = ap (λ rows. has rows s) c.self.view_is in
    let others : has (take c.other.inside.height c.other.inside.rows) s ≡ has c.args.other.now s =
    has-take c.other.inside.rows c.other.inside.height c.other.invariant s ∙ ap (λ rows. has rows s) c.other.view_is in (
      λ e. elim ((c.join.ensures s).0 e) [ inl before ↦ inl (sym mine ∙ before) | inr there ↦ inr (sym others ∙ there) ],
      λ one. (c.join.ensures s).1 (elim one [ inl before ↦ inl (mine ∙ before) | inr there ↦ inr (others ∙ there) ]),
    )

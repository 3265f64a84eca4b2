use Rattle.std.proofs.Common.{◌≡◌, ◌∙◌, ◌↔◌, ◌⊎◌, ap, subst, sym, true}
use Rattle.sok_field.specs.Fields.{has}
use Rattle.sok_field.specs.Halves.{halves, within}
use Rattle.sok_field.proofs.Halves.{by-halves, has-lower, has-upper}
use Rattle.sok_field.proofs.field.Field.join.Goals as goal

pub returns : goal.returns
returns c = λ s.
    let mine = c.self.inside in
    let others = c.other.inside in
    let low = c.join.new.self in
    let high = c.join-2.new.self in
    let other = c.args.other.now in
    subst (λ rows. (has (halves low high) s ≡ true) ↔ ((has rows s ≡ true) ⊎ (has other s ≡ true))) c.self.view_is
    (by-halves mine.low mine.high low high (λ t b. (b ≡ true) ⊎ (has other t ≡ true))
    (λ t inside. subst (λ b. (has low t ≡ true) ↔ ((has mine.low t ≡ true) ⊎ (b ≡ true)))
    (sym (has-lower others.low others.high t inside) ∙ ap (λ rows. has rows t) c.other.view_is) (c.join.ensures t))
    (λ t past. subst (λ b. (has high (within t) ≡ true) ↔ ((has mine.high (within t) ≡ true) ⊎ (b ≡ true)))
    (sym (has-upper others.low others.high t past) ∙ ap (λ rows. has rows t) c.other.view_is) (c.join-2.ensures (within t))) s)

use Rattle.std.proofs.Common.{◌≡◌, ◌↔◌, ◌⊎◌, arith, subst, true}
use Rattle.sok_field.specs.Fields.{has}
use Rattle.sok_field.specs.Halves.{halves}
use Rattle.sok_field.specs.Spans.{LiesOn}
use Rattle.sok_field.proofs.Halves.{by-halves, either-iff, lies-elsewhere, lies-within, then_iff}
use Rattle.sok_field.proofs.field.Field.put_span.Goals as goal

pub returns-then-span-lt-COLUMNS : goal.returns-then-span-lt-COLUMNS
returns-then-span-lt-COLUMNS c = λ s.
    let low = c.self.inside.low in
    let high = c.self.inside.high in
    let new = c.put_span.new.self in
    let span = c.args.span in
    let left = c.if-span-lt-COLUMNS.true in
    let columns = c.requires.columns in
    subst (λ rows. (has (halves new high) s ≡ true) ↔ ((has rows s ≡ true) ⊎ LiesOn span s)) c.self.view_is
    (by-halves low high new high (λ t b. (b ≡ true) ⊎ LiesOn span t)
    (λ t _. c.put_span.ensures t) (λ t past. lies-elsewhere _ t span (λ (_, _, below). omega (arith, below, past, left, columns))) s)

pub returns-else-span-lt-COLUMNS : goal.returns-else-span-lt-COLUMNS
returns-else-span-lt-COLUMNS c = λ s.
    let low = c.self.inside.low in
    let high = c.self.inside.high in
    let new = c.put_span-else-span-lt-COLUMNS.new.self in
    let span = c.args.span in
    let right = c.if-span-lt-COLUMNS.false in
    subst (λ rows. (has (halves low new) s ≡ true) ↔ ((has rows s ≡ true) ⊎ LiesOn span s)) c.self.view_is
    (by-halves low high low new (λ t b. (b ≡ true) ⊎ LiesOn span t)
    (λ t inside. lies-elsewhere _ t span (λ (_, from, _). omega (arith, from, inside, right)))
    (λ t past. then_iff (c.put_span-else-span-lt-COLUMNS.ensures _) (either-iff _ (lies-within span _ t past (omega (arith, right)) c.span_within.ensures))) s)

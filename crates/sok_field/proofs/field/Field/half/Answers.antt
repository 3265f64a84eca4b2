use Rattle.std.proofs.Common.{◌≡◌, ◌-◌, ◌%◌, ◌∙◌, ap, arith, sym}
use Rattle.sok_field.specs.Fields.{has}
use Rattle.sok_field.proofs.Halves.{has-lower, has-upper}
use Rattle.sok_field.proofs.field.Field.half.Goals as goal

pub returns-then-col-lt-COLUMNS : goal.returns-then-col-lt-COLUMNS
returns-then-col-lt-COLUMNS c = λ s is.
    let low = c.self.inside.low in
    let high = c.self.inside.high in
    let left = c.if-col-lt-COLUMNS.true in
    let same : s.col % 64 ≡ s.col = omega (arith, is, left) in
    ap (λ k. has low (record { row = s.row; col = k })) same ∙ sym (has-lower low high s (omega (arith, is, left))) ∙ ap (λ rows. has rows s) c.self.view_is

pub returns-else-col-lt-COLUMNS : goal.returns-else-col-lt-COLUMNS
returns-else-col-lt-COLUMNS c = λ s is.
    let low = c.self.inside.low in
    let high = c.self.inside.high in
    let right = c.if-col-lt-COLUMNS.false in
    let within = c.requires in
    let same : s.col % 64 ≡ s.col - 64 = omega (arith, is, right, within) in
    ap (λ k. has high (record { row = s.row; col = k })) same ∙ sym (has-upper low high s (omega (arith, is, right))) ∙ ap (λ rows. has rows s) c.self.view_is

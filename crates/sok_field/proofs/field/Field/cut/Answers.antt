use Rattle.std.proofs.Common.{◌≡◌, ◌<◌, ◌-◌, ◌∙◌, ap, arith, sym}
use Rattle.sok_board.specs.Spans.{right_of}
use Rattle.sok_board.specs.declared.spans.Span.{Span}
use Rattle.sok_field.specs.Fields.{has}
use Rattle.sok_field.specs.Halves.{within}
use Rattle.sok_field.proofs.Halves.{has-lower, has-upper}
use Rattle.sok_field.proofs.OneSquare.{same_place}
use Rattle.sok_field.proofs.field.Field.cut.Goals as goal

pub returns-then-span-lt-COLUMNS : goal.returns-then-span-lt-COLUMNS
returns-then-span-lt-COLUMNS c = λ k.
    let low = c.self.inside.low in
    let high = c.self.inside.high in
    let span = c.args.span in
    let left = c.if-span-lt-COLUMNS.true in
    let columns = c.requires.columns in
    let is : k < span.length → has low (right_of span.first k) ≡ has c.args.self.now (right_of span.first k) = λ below.
    sym (has-lower low high (right_of span.first k) (omega (arith, below, left, columns)))
    ∙ ap (λ rows. has rows (right_of span.first k)) c.self.view_is in
    let bits = c.cut.ensures k in (
      λ on. let (below, there) = bits.0 on in (below, sym (is below) ∙ there),
      λ (below, there). bits.1 (below, is below ∙ there),
    )

pub returns : goal.returns
returns c = λ k.
    let low = c.self.inside.low in
    let high = c.self.inside.high in
    let span = c.args.span in
    let part = c.span_within.result in
    let right = c.if-span-lt-COLUMNS.false in
    let long : part.length ≡ span.length = ap (λ (r : Span). r.length) c.span_within.ensures in
    let row : part.first.row ≡ span.first.row = ap (λ (r : Span). r.first.row) c.span_within.ensures in
    let col : part.first.col ≡ span.first.col - 64 = ap (λ (r : Span). r.first.col) c.span_within.ensures in
    let here : right_of part.first k ≡ within (right_of span.first k) =
    same_place (right_of part.first k) (within (right_of span.first k)) row (omega (arith, col, right)) in
    let is : has high (right_of part.first k) ≡ has c.args.self.now (right_of span.first k) = ap (has high) here
    ∙ sym (has-upper low high (right_of span.first k) (omega (arith, right)))
    ∙ ap (λ rows. has rows (right_of span.first k)) c.self.view_is in
    let bits = c.cut-2.ensures k in (
      λ on. let (below, there) = bits.0 on in (omega (arith, below, long), sym is ∙ there),
      λ (below, there). bits.1 (omega (arith, below, long), is ∙ there),
    )

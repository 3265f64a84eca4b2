use Rattle.std.proofs.Common.{◌<◌, ◌∙◌, sym, subst, arith, true≢false, get_or, ◌+◌}
use Rattle.sok_field.specs.Numbers.{Draws}
use Rattle.sok_field.proofs.BySpans.{no_span, next-span, no-more, Draws-span}
use Rattle.sok_field.proofs.drawing.draw.Goals as goal

pub loop-span-init : goal.loop-span-init
loop-span-init c = record {
  to = 0;
  rest = c.spans-spans.ensures.spans;
  drawn = λ s. (λ e. absurd (true≢false (sym e ∙ c.requires s)), λ (n, _, below). absurd (omega (arith, below)));
}

pub put_span-requires : goal.put_span-requires
put_span-requires c =
    let (is, _, _) = next-span _ _ _ _ _ c.loop-span-test.true c.loop-span.invariant.rest in
    record { some = is.some; row = is.row; col = is.col; columns = is.columns }

pub loop-span-preserved : goal.loop-span-preserved
loop-span-preserved c =
    let (is, at, rest) = next-span _ _ _ _ _ c.loop-span-test.true c.loop-span.invariant.rest in
    record {
      to = c.loop-span.invariant.to + (get_or c.spans-spans.result.now c.loop-span.span-index no_span).length;
      rest = rest;
      drawn = Draws-span _ c.spans-spans.ensures.accepted.numbered _ _ _ _ is at c.put_span.ensures c.loop-span.invariant.drawn;
    }

pub returns : goal.returns
returns c =
    let b = c.args.board.now in
    let all = no-more b c.spans-spans.result.now c.loop-span.span-index c.loop-span.invariant.to _ c.loop-span-test.false c.loop-span.invariant.rest in
    record { drawn = subst (λ k. Draws b (λ n. n < k) c.loop-span.field) all c.loop-span.invariant.drawn; accepted = c.spans-spans.ensures.accepted }

use Rattle.std.proofs.Common.{◌≡◌, ◌<◌, ◌+◌, ◌-◌, ◌↔◌, ◌∙◌, refl, sym, subst, arith, true, true≢false, get_or}
use Rattle.sok_board.specs.Area.{spot_of}
use Rattle.sok_field.specs.Fields.{has}
use Rattle.sok_field.specs.Numbers.{bit_of_number, has_number}
use Rattle.sok_field.proofs.BySpans.{no_span, next-span, no-more, written-span}
use Rattle.sok_field.proofs.numbers.write.Goals as goal

pub loop-span-init : goal.loop-span-init
loop-span-init c = record {
  room = refl;
  to = 0;
  rest = c.spans-spans.ensures.spans;
  done = λ n. (λ e. absurd (true≢false (sym e ∙ c.clear.ensures (bit_of_number n))), λ (below, _). absurd (omega (arith, below)));
}

pub cut-requires : goal.cut-requires
cut-requires c =
    let (is, _, _) = next-span _ _ _ _ _ c.loop-span-test.true c.loop-span.invariant.rest in
    record { some = is.some; row = is.row; col = is.col; columns = is.columns }

pub put_word-requires : goal.put_word-requires
put_word-requires c =
    let span = get_or c.spans-spans.result.now c.loop-span.span-index no_span in
    let (is, _, _) = next-span _ _ _ _ _ c.loop-span-test.true c.loop-span.invariant.rest in
    let some = is.some in
    let within = is.within in
    let room = c.loop-span.invariant.room in
    let few = c.requires in
    record {
      number = omega (arith, some, within, room, few);
      fits = λ n (from, on).
          let below = ((c.cut.ensures (n - span.number)).0 on).0 in
          omega (arith, from, below, within, room, few);
    }

pub loop-span-preserved : goal.loop-span-preserved
loop-span-preserved c =
    let (is, at, rest) = next-span _ _ _ _ _ c.loop-span-test.true c.loop-span.invariant.rest in
    record {
      room = omega arith;
      to = c.loop-span.invariant.to + (get_or c.spans-spans.result.now c.loop-span.span-index no_span).length;
      rest = rest;
      done = written-span _ c.args.set.now _ _ _ _ c.cut.result is at c.cut.ensures c.put_word.ensures c.loop-span.invariant.done;
    }

pub returns : goal.returns
returns c =
    let b = c.args.board.now in
    let words = c.loop-span.words in
    let all = no-more b c.spans-spans.result.now c.loop-span.span-index c.loop-span.invariant.to _ c.loop-span-test.false c.loop-span.invariant.rest in
    λ n. subst (λ k. (has_number words n ≡ true) ↔ ((n < k) × (has c.args.set.now (spot_of b n) ≡ true))) all (c.loop-span.invariant.done n)

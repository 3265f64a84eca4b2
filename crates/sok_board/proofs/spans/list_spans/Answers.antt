use Rattle.std.proofs.Common.{◌≡◌, ◌+◌, refl, sym, ap, subst, arith, length, get_or}
use Rattle.sok_board.specs.Spans.{Covers}
use Rattle.sok_board.specs.declared.spans.Span.{Span}
use Rattle.sok_board.proofs.AreaLaws.{origin}
use Rattle.sok_board.proofs.Covering.{Covers-push, IsSpan-beside}
use Rattle.sok_board.proofs.spans.list_spans.Goals as goal

pub loop-number-init : goal.loop-number-init
loop-number-init c = record {
  within = omega arith;
  covers = λ b same. subst (λ spans. Covers b 0 spans 0) (sym c.new-spans.ensures.items) refl;
}

pub loop-number-preserved : goal.loop-number-preserved
loop-number-preserved c =
    let squares = c.args.squares.now in
    let n = c.loop-number.number in
    let told = c.span_length-length.ensures in
    let span : Span = record { first = get_or squares n origin; number = n; length = c.span_length-length.result } in
    record {
      within = told.within;
      covers = λ b same. subst (λ spans. Covers b 0 spans (n + span.length)) (sym c.in_ok-push.ensures.items)
          (Covers-push b c.loop-number.spans.items 0 n span (c.loop-number.invariant.covers b same)
          (IsSpan-beside b squares n span.length same c.requires.within told.some told.within told.columns told.lies) refl);
    }

pub returns : goal.returns
returns c = λ b same.
    let end : c.loop-number.number ≡ length b.area =
    let long = ap length same in let past = c.loop-number-test.false in let within = c.loop-number.invariant.within in omega (arith, long, past, within) in
    subst (Covers b 0 c.loop-number.spans.items) end (c.loop-number.invariant.covers b same)

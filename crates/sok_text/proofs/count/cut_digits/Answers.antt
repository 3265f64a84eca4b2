use Rattle.std.proofs.Common.{◌≡◌, ◌∙◌, true, sym, arith}
use Rattle.std.proofs.lemmas.List.Elements.{All-more}
use Rattle.std.specs.Char.{is_ascii_digit}
use Rattle.sok_text.proofs.count.cut_digits.Goals as goal

pub loop-end-preserved : goal.loop-end-preserved
loop-end-preserved c = record {
  within = omega arith;
  digits = All-more (λ byte. is_ascii_digit byte ≡ true) c.args.text.now c.loop-end.end 0 (omega arith) c.loop-end.invariant.digits
      (sym c.is_ascii_digit.ensures.value ∙ c.if-is_ascii_digit.true);
}

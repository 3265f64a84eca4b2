use Rattle.std.proofs.Common.{get_or, arith}
use Rattle.std.proofs.lemmas.Int.Digits.{digits_value_more, digits_more}
use Rattle.std.proofs.lemmas.Str.{digit_value_digit}
use Rattle.std.proofs.lemmas.Bool.Decides.{nat_tests}
use Rattle.sok_entry.proofs.Fronts.{digit-inside, inside, value-below}
use Rattle.sok_entry.proofs.number.front_value.Goals as goal

pub returns-then-not-is_ascii_digit : goal.returns-then-not-is_ascii_digit
returns-then-not-is_ascii_digit c = λ n rest begins.
    let text = c.args.text.now in
    let at = c.loop-count.count in
    let below = inside text n rest begins at c.loop-count-test.true c.loop-count.invariant.digits (λ space. grind (arith, nat_tests)) in
    let digit = digit-inside text n rest begins at below in
    let out = c.if-not-is_ascii_digit.ensures.cases in
    grind arith

pub returns-then-number-gt-LIMIT : goal.returns-then-number-gt-LIMIT
returns-then-number-gt-LIMIT c = λ n rest begins.
    let text = c.args.text.now in
    let at = c.loop-count.count in
    let below = inside text n rest begins at c.loop-count-test.true c.loop-count.invariant.digits (λ space. grind (arith, nat_tests)) in
    omega (
      arith,
      begins.small,
      value-below text n rest begins at below,
      digits_value_more 10 text at c.loop-count-test.true,
      digit_value_digit (get_or text at 0) c.if-not-is_ascii_digit.ensures.cases,
    )

pub loop-count-preserved : goal.loop-count-preserved
loop-count-preserved c =
    let text = c.args.text.now in
    let at = c.loop-count.count in
    let digit = c.if-not-is_ascii_digit.ensures in
    record {
      digits = digits_more 10 text at c.loop-count-test.true c.loop-count.invariant.digits digit.bound;
      value = omega (arith, digits_value_more 10 text at c.loop-count-test.true, digit_value_digit (get_or text at 0) digit.cases);
      small = omega arith;
    }

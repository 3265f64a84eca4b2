use Rattle.std.proofs.Common.{◌≡◌, ◌++◌, ◌∙◌, length, replicate, sym, ap, arith, inr, subst}
use Rattle.std.proofs.lemmas.Bool.Decides.{nat_tests}
use Rattle.std.proofs.lemmas.List.{length-append}
use Rattle.sok_text.specs.Counts.{times}
use Rattle.sok_text.proofs.Runs.{not_empty}
use Rattle.sok_text.proofs.Tokens.{IsReadTo, IsReadTo-blank, IsReadTo-letter, IsReadTo-start, Spells-read, left-le}
use Rattle.sok_text.proofs.Lines.{behind_first}
use Rattle.sok_text.proofs.Tokens.{GoesWrong-no_letter, GoesWrong-never, GoesWrong-many}
use Rattle.sok_text.proofs.lurd.read_lurd.Goals as goal

pub overflow_sub-result : goal.overflow_sub-result
overflow_sub-result c = omega (
  arith,
  left-le c.args.text.now c.loop-left.left.now c.loop-left.letters.items c.loop-left.invariant,
  ap length c.cut_digits.ensures.whole,
  length-append c.cut_digits.result.0.now c.cut_digits.result.1.now,
)

pub overflow_sub-result-then-count-eq0 : goal.overflow_sub-result-then-count-eq0
overflow_sub-result-then-count-eq0 c = left-le c.args.text.now c.loop-left.left.now c.loop-left.letters.items c.loop-left.invariant

pub overflow_sub-len : goal.overflow_sub-len
overflow_sub-len c = omega (arith, c.loop-left.invariant.spelled.few)

pub returns-in_default : goal.returns-in_default
returns-in_default c =
    inr (GoesWrong-no_letter c.args.text.now c.loop-left.left.now c.cut_digits.result.0.now c.cut_digits.result.1.now c.loop-left.letters.items c.loop-left.invariant
    (not_empty c.loop-left.left.now (sym c.is_empty.ensures ∙ c.loop-left-test.true)) (sym c.is_blank.ensures ∙ c.if-is_blank.false) c.cut_digits.ensures.whole c.cut_digits.ensures.digits c.cut_digits.ensures.behind
    (sym c.first_direction.ensures ∙ c.in_default.is))

pub returns-then-count-eq0 : goal.returns-then-count-eq0
returns-then-count-eq0 c =
    let none : times c.cut_digits.result.0.now ≡ 0 = omega arith in
    inr (GoesWrong-never c.args.text.now c.loop-left.left.now c.cut_digits.result.0.now c.cut_digits.result.1.now c.loop-left.letters.items c.in-Some.dir
    c.loop-left.invariant c.cut_digits.ensures.whole c.cut_digits.ensures.digits (sym c.first_direction.ensures ∙ c.in-Some.is) none)

pub returns-then-count-len : goal.returns-then-count-len
returns-then-count-len c =
    inr (GoesWrong-many c.args.text.now c.loop-left.left.now c.cut_digits.result.0.now c.cut_digits.result.1.now c.loop-left.letters.items c.in-Some.dir
    c.loop-left.invariant c.cut_digits.ensures.whole c.cut_digits.ensures.digits (sym c.first_direction.ensures ∙ c.in-Some.is) (omega arith))

pub returns : goal.returns
returns c =
    Spells-read c.args.text.now c.loop-left.left.now c.loop-left.letters.items c.loop-left.invariant (grind (arith, nat_tests))

pub loop-left-init : goal.loop-left-init
loop-left-init c = subst (IsReadTo c.args.text.now c.args.text.now) (sym c.new-letters.ensures.items) (IsReadTo-start c.args.text.now)

pub loop-left-preserved-then-is_blank : goal.loop-left-preserved-then-is_blank
loop-left-preserved-then-is_blank c =
    IsReadTo-blank c.args.text.now c.loop-left.left.now c.loop-left.letters.items c.loop-left.invariant (not_empty c.loop-left.left.now (sym c.is_empty.ensures ∙ c.loop-left-test.true))
    (sym c.is_blank.ensures ∙ c.if-is_blank.true)

pub loop-left-preserved : goal.loop-left-preserved
loop-left-preserved c =
    let n = times c.cut_digits.result.0.now in
    let w = c.loop-left.letters.items in
    let few = c.loop-left.invariant.spelled.few in
    let count : c.times-count.result ≡ n = omega arith in
    let items : c.put.new.letters.items ≡ w ++ replicate n c.in-Some.dir = c.in_ok-put.ensures ∙ ap (λ k. w ++ replicate k c.in-Some.dir) count in
    subst (IsReadTo c.args.text.now (behind_first c.cut_digits.result.1.now)) (sym items)
    (IsReadTo-letter c.args.text.now c.loop-left.left.now c.cut_digits.result.0.now c.cut_digits.result.1.now w c.in-Some.dir c.loop-left.invariant
    c.cut_digits.ensures.whole c.cut_digits.ensures.digits (sym c.first_direction.ensures ∙ c.in-Some.is) (omega arith) (omega arith))

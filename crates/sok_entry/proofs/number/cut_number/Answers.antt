use Rattle.std.proofs.Common.{◌≡◌, ◌<◌, ◌++◌, ◌∙◌, Some, ap, arith, decimal, drop, get_or, length, subst, sym, take}
use Rattle.std.proofs.Math.ListN.{get_or-append}
use Rattle.std.proofs.lemmas.Bool.Decides.{nat_tests}
use Rattle.std.proofs.lemmas.List.{get_or-take, length-take-le, take-append-drop, take_rest}
use Rattle.sok_entry.specs.Fronts.{BeginsWith}
use Rattle.sok_entry.proofs.Fronts.{exact}
use Rattle.sok_entry.proofs.Numbers.{IsNumeral-decimal, Tells-value, decimal-lead}
use Rattle.sok_entry.proofs.number.cut_number.Goals as goal
use Rattle.sok_entry.proofs.number.cut_number.Goals.{else-count-gt1-via-then-count-gt1+else-text-eq48, else-count-gt1-via-else-count-gt1}

pub returns-then-count-eq0 : goal.returns-then-count-eq0
returns-then-count-eq0 c = λ n rest begins.
    let same = exact c.args.text.now n rest begins c.in_ok-number.number c.in_ok-number.count c.in_ok-number.ensures in
    let some = (IsNumeral-decimal n begins.small).0 in
    grind (arith, nat_tests)

pub returns-then-text-eq48 : goal.returns-then-text-eq48
returns-then-text-eq48 c = λ n rest begins.
    let text = c.args.text.now in
    let same = exact text n rest begins c.in_ok-number.number c.in_ok-number.count c.in_ok-number.ensures in
    let long : 1 < length (decimal n) = grind (arith, nat_tests) in
    let zero : get_or text 0 0 ≡ 48 = grind (arith, nat_tests) in
    decimal-lead n begins.small long
    (sym (ap (λ t. get_or t 0 0) begins.spelled ∙ get_or-append (decimal n) rest 0 0 (omega (arith, long))) ∙ zero)

pub returns : goal.returns
returns c =
    let text = c.args.text.now in
    let number = c.in_ok-number.number in
    let count = c.in_ok-number.count in
    let has = c.in_ok-number.ensures in
    let some : 0 < count = grind (arith, nat_tests) in
    let long = length-take-le count text has.within in
    let first = get_or-take count text 0 0 some in
    let lead : 1 < length (take count text) → get_or (take count text) 0 0 ≡ 48 → ⊥ = λ more zero. elim c.else-count-gt1.branch [
      | else-count-gt1-via-then-count-gt1+else-text-eq48 w ↦ let other = w.if-text-eq48.false in grind (arith, nat_tests)
      | else-count-gt1-via-else-count-gt1 w ↦ let short = w.if-count-gt1.false in grind (arith, nat_tests)
    ] in
    let spelled = Tells-value (take count text) (omega (arith, some, long)) lead (Some number) (has.small, has.digits, has.value) in
    subst (BeginsWith text number) (sym (take_rest text count)) (record {
      small = has.small;
      spelled = sym (take-append-drop count text) ∙ ap (λ word. word ++ drop count text) spelled.1;
      ends = has.ends;
    })

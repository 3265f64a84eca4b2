use Rattle.std.proofs.Common.{true, false, not, option_map, sym, ◌∙◌, ap, arith, length}
use Rattle.std.specs.List.{list_all}
use Rattle.sok_text.specs.Titles.{is_space}
use Rattle.sok_text.proofs.Lines.{length-after_line}
use Rattle.sok_text.proofs.Runs.{not_empty}
use Rattle.sok_text.proofs.Titles.{find-reverse_more}
use Rattle.sok_text.proofs.title.last_full_line.Goals as goal

pub loop-rest-smaller-then-not-is_blank_line : goal.loop-rest-smaller-then-not-is_blank_line
loop-rest-smaller-then-not-is_blank_line c =
    let some = not_empty c.loop-rest.rest.now (sym c.is_empty.ensures ∙ c.loop-rest-test.true) in
    omega (arith, length-after_line c.loop-rest.rest.now some, ap length c.cut_line.ensures.rest)

pub loop-rest-smaller : goal.loop-rest-smaller
loop-rest-smaller c =
    let some = not_empty c.loop-rest.rest.now (sym c.is_empty.ensures ∙ c.loop-rest-test.true) in
    omega (arith, length-after_line c.loop-rest.rest.now some, ap length c.cut_line.ensures.rest)

pub loop-rest-preserved-then-not-is_blank_line : goal.loop-rest-preserved-then-not-is_blank_line
loop-rest-preserved-then-not-is_blank_line c =
    find-reverse_more (λ l. not (list_all is_space l)) _ _ _ (option_map (λ l. l.now) c.loop-rest.last) true
    (ap not (sym c.is_blank_line.ensures ∙ c.if-not-is_blank_line.true)) (not_empty _ (sym c.is_empty.ensures ∙ c.loop-rest-test.true))
    c.cut_line.ensures.line c.cut_line.ensures.rest ∙ c.loop-rest.invariant

pub loop-rest-preserved : goal.loop-rest-preserved
loop-rest-preserved c =
    find-reverse_more (λ l. not (list_all is_space l)) _ _ _ (option_map (λ l. l.now) c.loop-rest.last) false
    (ap not (sym c.is_blank_line.ensures ∙ c.if-not-is_blank_line.false)) (not_empty _ (sym c.is_empty.ensures ∙ c.loop-rest-test.true))
    c.cut_line.ensures.line c.cut_line.ensures.rest ∙ c.loop-rest.invariant

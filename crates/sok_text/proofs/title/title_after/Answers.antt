use Rattle.std.proofs.Common.{length, sym, ◌∙◌, ap, arith}
use Rattle.sok_text.proofs.Lines.{length-after_line}
use Rattle.sok_text.proofs.Runs.{not_empty}
use Rattle.sok_text.proofs.Titles.{title_after-none, title_after-some}
use Rattle.sok_text.proofs.title.title_after.Goals as goal

pub loop-rest-smaller : goal.loop-rest-smaller
loop-rest-smaller c =
    let some = not_empty c.loop-rest.rest.now (sym c.is_empty.ensures ∙ c.loop-rest-test.true) in
    omega (arith, length-after_line c.loop-rest.rest.now some, ap length c.cut_line.ensures.rest)

pub loop-rest-preserved : goal.loop-rest-preserved
loop-rest-preserved c =
    let some = not_empty c.loop-rest.rest.now (sym c.is_empty.ensures ∙ c.loop-rest-test.true) in
    title_after-none c.loop-rest.rest.now c.cut_line.result.0.now c.cut_line.result.1.now some c.cut_line.ensures.line c.cut_line.ensures.rest c.in-None.ensures
    ∙ c.loop-rest.invariant

pub returns-in-Some : goal.returns-in-Some
returns-in-Some c =
    let some = not_empty c.loop-rest.rest.now (sym c.is_empty.ensures ∙ c.loop-rest-test.true) in
    title_after-some c.loop-rest.rest.now c.cut_line.result.0.now c.in-Some.title.now some c.cut_line.ensures.line c.in-Some.ensures ∙ c.loop-rest.invariant

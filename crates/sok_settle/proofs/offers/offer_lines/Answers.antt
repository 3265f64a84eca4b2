use Rattle.std.proofs.Common.{◌∙◌, ap, arith, length, sym}
use Rattle.std.proofs.lemmas.Result.{err_from_is_err_and}
use Rattle.sqlite.specs.Held.{state}
use Rattle.sok_text.proofs.Lines.{length-after_line}
use Rattle.sok_text.proofs.Runs.{not_empty}
use Rattle.sok_settle.proofs.Lines.{at_blank, at_end, at_fault, at_next, at_start}
use Rattle.sok_settle.proofs.offers.offer_lines.Goals as goal

pub loop-rest-init : goal.loop-rest-init
loop-rest-init g c = at_start c.args.text.now (state g.S.Store c.args.book.now) (g.W.Write.contents c.args.out.now)

pub loop-rest-smaller-in_ok-taken : goal.loop-rest-smaller-in_ok-taken
loop-rest-smaller-in_ok-taken g c =
    let some = not_empty c.loop-rest.rest.now (sym c.is_empty.ensures ∙ c.loop-rest-test.true) in
    omega (arith, length-after_line c.loop-rest.rest.now some, ap length c.cut_line.ensures.rest)

pub loop-rest-smaller : goal.loop-rest-smaller
loop-rest-smaller g c =
    let some = not_empty c.loop-rest.rest.now (sym c.is_empty.ensures ∙ c.loop-rest-test.true) in
    omega (arith, length-after_line c.loop-rest.rest.now some, ap length c.cut_line.ensures.rest)

pub returns-in_err-taken : goal.returns-in_err-taken
returns-in_err-taken g c =
    let p = err_from_is_err_and c.from_residual.result c.from_residual.ensures.1 in
    let here = c.loop-rest in
    let some = not_empty here.rest.now (sym c.is_empty.ensures ∙ c.loop-rest-test.true) in
    rw (p.1, p.2) (at_fault c.args.text.now (state g.S.Store c.args.book.now) (state g.S.Store here.book) here.rest.now c.cut_line.result.0.now c.cut_line.result.1.now
    here.all (g.W.Write.contents c.args.out.now) (g.W.Write.contents here.out) here.invariant some c.cut_line.ensures.line c.cut_line.ensures.rest
    (state g.S.Store c.offer_line.new.book) (g.W.Write.contents c.offer_line.new.out) (sym c.is_blank_line.ensures ∙ c.if-not-is_blank_line.true)
    c.in_err-taken.field-0.0 c.in_err-taken.ensures)

pub loop-rest-preserved-in_ok-taken : goal.loop-rest-preserved-in_ok-taken
loop-rest-preserved-in_ok-taken g c =
    let here = c.loop-rest in
    let some = not_empty here.rest.now (sym c.is_empty.ensures ∙ c.loop-rest-test.true) in
    at_next c.args.text.now (state g.S.Store c.args.book.now) (state g.S.Store here.book) here.rest.now c.cut_line.result.0.now c.cut_line.result.1.now
    here.all (g.W.Write.contents c.args.out.now) (g.W.Write.contents here.out) here.invariant some c.cut_line.ensures.line c.cut_line.ensures.rest
    (state g.S.Store c.offer_line.new.book) (g.W.Write.contents c.offer_line.new.out) (sym c.is_blank_line.ensures ∙ c.if-not-is_blank_line.true)
    c.in_ok-taken.taken c.in_ok-taken.ensures

pub loop-rest-preserved : goal.loop-rest-preserved
loop-rest-preserved g c =
    let here = c.loop-rest in
    let some = not_empty here.rest.now (sym c.is_empty.ensures ∙ c.loop-rest-test.true) in
    at_blank c.args.text.now (state g.S.Store c.args.book.now) (state g.S.Store here.book) here.rest.now c.cut_line.result.0.now c.cut_line.result.1.now
    here.all (g.W.Write.contents c.args.out.now) (g.W.Write.contents here.out) here.invariant some c.cut_line.ensures.line c.cut_line.ensures.rest
    (sym c.is_blank_line.ensures ∙ c.if-not-is_blank_line.false)

pub returns : goal.returns
returns g c =
    let here = c.loop-rest in
    at_end c.args.text.now (state g.S.Store c.args.book.now) (state g.S.Store here.book) here.rest.now here.all c.offers_status.result
    (g.W.Write.contents c.args.out.now) (g.W.Write.contents here.out) c.requires (sym c.is_empty.ensures ∙ c.loop-rest-test.false) c.offers_status.ensures here.invariant

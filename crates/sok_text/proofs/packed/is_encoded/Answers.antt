use Rattle.std.proofs.Common.{◌&&◌, sym, ◌∙◌, ap, arith}
use Rattle.std.specs.List.{list_all}
use Rattle.sok_text.specs.Packed.{is_mark, marks_of}
use Rattle.sok_text.proofs.Lines.{behind_first}
use Rattle.sok_text.proofs.Marks.{marks_of-behind, marks_of-end}
use Rattle.sok_text.proofs.Runs.{not_empty}
use Rattle.sok_text.proofs.packed.is_encoded.Goals as goal

pub returns-in_default : goal.returns-in_default
returns-in_default c =
    let left = c.loop-left.left.now in
    let cut = c.cut_digits.ensures in
    sym (c.loop-left.invariant
    ∙ ap (list_all is_mark) (marks_of-end left c.cut_digits.result.0.now c.cut_digits.result.1.now
    (not_empty left (sym c.is_empty.ensures ∙ c.loop-left-test.true)) cut.whole cut.digits (omega arith)))

pub returns-then-not-is_mark : goal.returns-then-not-is_mark
returns-then-not-is_mark c =
    let behind = c.cut_digits.result.1.now in
    let cut = c.cut_digits.ensures in
    sym (c.loop-left.invariant
    ∙ ap (list_all is_mark) (marks_of-behind c.loop-left.left.now c.cut_digits.result.0.now behind cut.whole cut.digits cut.behind (omega arith))
    ∙ ap (λ b. b && list_all is_mark (marks_of (behind_first behind))) (sym c.is_mark.ensures ∙ c.if-not-is_mark.true))

pub loop-left-preserved : goal.loop-left-preserved
loop-left-preserved c =
    let behind = c.cut_digits.result.1.now in
    let cut = c.cut_digits.ensures in
    c.loop-left.invariant
    ∙ ap (list_all is_mark) (marks_of-behind c.loop-left.left.now c.cut_digits.result.0.now behind cut.whole cut.digits cut.behind (omega arith))
    ∙ ap (λ b. b && list_all is_mark (marks_of (behind_first behind))) (sym c.is_mark.ensures ∙ c.if-not-is_mark.false)

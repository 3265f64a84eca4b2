use Rattle.std.proofs.Common.{◌++◌, ◌∷◌, [], ◌∙◌, sym, ap, arith, get_or, take}
use Rattle.sok_rules.specs.declared.cell.Dir.TheVariants.{Left}
use Rattle.sok_rules.specs.Play.{start}
use Rattle.sok_text.specs.Marked.{marked_letter, marked_text}
use Rattle.sok_text.proofs.Marked.{length-AreMarks, marked_text-take_more}
use Rattle.sok_text.proofs.lurd.print_lurd.Goals as goal

pub index-requires : goal.index-requires
index-requires c = omega (arith, c.in_ok-marks.marks.ok.0, length-AreMarks c.args.level.now c.args.dirs.now c.in_ok-marks.marks.items c.in_ok-marks.ensures)

pub loop-at-preserved : goal.loop-at-preserved
loop-at-preserved c =
    let rows = c.args.level.now in
    let w = c.args.dirs.now in
    let at = c.loop-at.at in
    let mark = c.index.result.now in
    c.in_ok-push.ensures.items ∙ ap (λ text. text ++ c.letter.result ∷ []) c.loop-at.invariant
    ∙ ap (λ last. marked_text rows (start rows) (take at w) ++ last) (c.letter.ensures ∙ ap (marked_letter (get_or w at Left)) c.index.ensures)
    ∙ sym (marked_text-take_more rows w at Left mark c.in_ok-marks.marks.items (omega arith) c.in_ok-marks.ensures)

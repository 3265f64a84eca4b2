use Rattle.std.proofs.Common.{◌≡◌, IfOk, sym, ◌∙◌, ap, subst}
use Rattle.sok_rules.specs.Levels.{cells_of, level_of}
use Rattle.sok_text.specs.declared.kind.Kind.TheVariants.{Packed}
use Rattle.sok_text.specs.Kinds.{kind_of}
use Rattle.sok_text.specs.Lines.{first_line}
use Rattle.sok_text.specs.Packed.{packed_rows}
use Rattle.sok_text.proofs.Rows.{rows-lines, rows-packed}
use Rattle.sok_text.proofs.collection.rows_of.Goals as goal

pub returns-in-Packed : goal.returns-in-Packed
returns-in-Packed c =
    let board = c.args.board.now in
    let same : kind_of (first_line board) ≡ Packed = ap kind_of (sym c.cut_line.ensures.line) ∙ sym c.kind_of.ensures ∙ c.in-Packed.is in
    subst (λ whole. IfOk c.unpack.result (λ rows. level_of (cells_of rows.items) ≡ level_of whole))
    (ap packed_rows c.cut_line.ensures.line ∙ sym (rows-packed board same)) c.unpack.ensures

pub returns-in_default : goal.returns-in_default
returns-in_default c =
    let board = c.args.board.now in
    subst (λ whole. IfOk c.rows_of_lines.result (λ rows. level_of (cells_of rows.items) ≡ level_of whole))
    (sym (rows-lines board (λ same. c.in_default.not-Packed (c.kind_of.ensures ∙ ap kind_of c.cut_line.ensures.line ∙ same)))) c.rows_of_lines.ensures

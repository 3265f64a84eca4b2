use Rattle.std.proofs.Common.{◌+◌, ◌∙◌, subst, sym, take}
use Rattle.std.proofs.lemmas.List.{take_rest}
use Rattle.sok_text.specs.Lines.{IsCutAtEnd}
use Rattle.sok_text.proofs.Lines.{IsCutAtEnd-some, IsUnended-none}
use Rattle.sok_text.proofs.line.cut_at_end.Goals as goal

pub returns-in-Some : goal.returns-in-Some
returns-in-Some c =
    let text = c.args.text.now in
    let end = c.in-Some.end in
    subst (IsCutAtEnd text (take end text)) (sym (take_rest text (end + 1))) (IsCutAtEnd-some text end (sym c.line_end.ensures ∙ c.in-Some.is))

pub returns-in-None : goal.returns-in-None
returns-in-None c = IsUnended-none c.args.text.now (sym c.line_end.ensures ∙ c.in-None.is)

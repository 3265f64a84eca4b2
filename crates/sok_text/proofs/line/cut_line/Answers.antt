use Rattle.std.proofs.Common.{◌+◌, length, sym, ◌∙◌, arith}
use Rattle.std.proofs.lemmas.List.{take_rest, drop_all}
use Rattle.sok_text.proofs.Lines.{first_line-some, first_line-none, after_line-some, after_line-none}
use Rattle.sok_text.proofs.line.cut_line.Goals as goal

pub returns-in-Some-clause-line : goal.returns-in-Some-clause-line
returns-in-Some-clause-line c = c.without_return.ensures ∙ sym (first_line-some c.args.text.now c.in-Some.end (sym c.line_end.ensures ∙ c.in-Some.is))

pub returns-in-Some-clause-rest : goal.returns-in-Some-clause-rest
returns-in-Some-clause-rest c =
    take_rest c.args.text.now (c.in-Some.end + 1) ∙ sym (after_line-some c.args.text.now c.in-Some.end (sym c.line_end.ensures ∙ c.in-Some.is))

pub returns-in-None-clause-line : goal.returns-in-None-clause-line
returns-in-None-clause-line c = sym (first_line-none c.args.text.now (sym c.line_end.ensures ∙ c.in-None.is))

pub returns-in-None-clause-rest : goal.returns-in-None-clause-rest
returns-in-None-clause-rest c =
    take_rest c.args.text.now (length c.args.text.now) ∙ drop_all (length c.args.text.now) c.args.text.now (omega arith)
    ∙ sym (after_line-none c.args.text.now (sym c.line_end.ensures ∙ c.in-None.is))

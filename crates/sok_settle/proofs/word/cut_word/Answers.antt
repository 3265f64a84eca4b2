use Rattle.std.proofs.Common.{◌∙◌, ◌+◌, ap, arith, drop, length, sym, take}
use Rattle.std.proofs.lemmas.List.{drop_all, take_all, take_rest}
use Rattle.std.specs.Char.{is_ascii_whitespace}
use Rattle.sok_settle.proofs.Words.{place_found, place_none}
use Rattle.sok_settle.proofs.word.cut_word.Goals as goal

pub returns-in-Some-clause-word : goal.returns-in-Some-clause-word
returns-in-Some-clause-word c =
    ap (λ n. take n c.args.line.now) (sym (place_found is_ascii_whitespace c.args.line.now c.in-Some.end (sym c.word_end.ensures ∙ c.in-Some.is)))

pub returns-in-Some-clause-text : goal.returns-in-Some-clause-text
returns-in-Some-clause-text c =
    take_rest c.args.line.now (c.in-Some.end + 1)
    ∙ ap (λ n. drop (n + 1) c.args.line.now) (sym (place_found is_ascii_whitespace c.args.line.now c.in-Some.end (sym c.word_end.ensures ∙ c.in-Some.is)))

pub returns-in-None-clause-word : goal.returns-in-None-clause-word
returns-in-None-clause-word c =
    sym (take_all _ c.args.line.now (place_none is_ascii_whitespace c.args.line.now (sym c.word_end.ensures ∙ c.in-None.is)))

pub returns-in-None-clause-text : goal.returns-in-None-clause-text
returns-in-None-clause-text c =
    let past = place_none is_ascii_whitespace c.args.line.now (sym c.word_end.ensures ∙ c.in-None.is) in
    take_rest c.args.line.now (length c.args.line.now) ∙ drop_all (length c.args.line.now) c.args.line.now (omega arith)
    ∙ sym (drop_all _ c.args.line.now (omega (arith, past)))

use Rattle.std.proofs.Common.{◌∙◌, ap, sym, Some}
use Rattle.std.specs.Prelude.{option_map}
use Rattle.clap.specs.Words.{found_of}
use Rattle.clap.proofs.WalkLemmas.{first_value-rows}
use Rattle.sok_words.proofs.values.option_of.Goals as goal

pub returns-in_default : goal.returns-in_default
returns-in_default c = λ found is.
    ap (option_map (λ s. s.now)) (sym c.in_default.is) ∙ c.get_str.ensures ∙ first_value-rows (found_of c.args.values.now) c.args.name.now ∙ is

pub returns-in-Ok : goal.returns-in-Ok
returns-in-Ok c = λ found is. ap (λ t. Some t) c.in-Ok.ensures.ok
    ∙ ap (option_map (λ s. s.now)) (sym c.in-Some.is) ∙ c.get_str.ensures ∙ first_value-rows (found_of c.args.values.now) c.args.name.now ∙ is

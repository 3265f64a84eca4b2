use Rattle.std.proofs.Common.{◌∙◌}
use Rattle.clap.specs.Words.{found_of}
use Rattle.sok_words.proofs.Getters.{number_parses, number_read, number_there}
use Rattle.sok_words.proofs.values.number_of.Goals as goal

pub returns-in-Some : goal.returns-in-Some
returns-in-Some c = λ digits number has.
    let there = number_there (found_of c.args.values.now) c.args.name.now digits number has in
    number_read digits c.in-Some.number has.0 (c.in-Some.ensures.value digits there).0.1 ∙ has.2

pub returns-in-None : goal.returns-in-None
returns-in-None c = λ digits number has.
    let there = number_there (found_of c.args.values.now) c.args.name.now digits number has in
    (c.in-None.ensures.value digits there).1.0 (number_parses digits has.0)

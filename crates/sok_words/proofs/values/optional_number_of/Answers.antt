use Rattle.std.proofs.Common.{Some, None, ap, sym}
use Rattle.std.proofs.lemmas.Option.{none-some}
use Rattle.clap.specs.Words.{found_of}
use Rattle.sok_words.proofs.Getters.{number_parses, number_read, pushes_number, pushes_there}
use Rattle.sok_words.proofs.values.optional_number_of.Goals as goal

pub returns-in-Some : goal.returns-in-Some
returns-in-Some c None has = absurd (none-some c.in-Some.number (sym (c.in-Some.ensures.none (pushes_there (found_of c.args.values.now) c.args.name.now None has))))
returns-in-Some c (Some digits) has =
    let there = pushes_there (found_of c.args.values.now) c.args.name.now (Some digits) has in
    ap (λ n. Some n) (number_read digits c.in-Some.number (pushes_number digits has.0) (c.in-Some.ensures.value digits there).0.1)

pub returns-in-None : goal.returns-in-None
returns-in-None c None has = c.in-None.ensures.none (pushes_there (found_of c.args.values.now) c.args.name.now None has)
returns-in-None c (Some digits) has =
    let there = pushes_there (found_of c.args.values.now) c.args.name.now (Some digits) has in
    absurd ((c.in-None.ensures.value digits there).1.0 (number_parses digits (pushes_number digits has.0)))

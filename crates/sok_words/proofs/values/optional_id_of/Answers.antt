use Rattle.std.proofs.Common.{Some, None}
use Rattle.clap.specs.Words.{found_of}
use Rattle.sok_words.proofs.Getters.{id_given, id_there}
use Rattle.sok_words.proofs.values.optional_id_of.Goals as goal

pub returns : goal.returns
returns c None has = c.get_one.ensures.none (id_there (found_of c.args.values.now) c.args.name.now None has)
returns c (Some digits) has =
    id_given c.get_one.result digits has.0
    (c.get_one.ensures.value digits (id_there (found_of c.args.values.now) c.args.name.now (Some digits) has))

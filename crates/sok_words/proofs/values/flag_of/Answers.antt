use Rattle.std.proofs.Common.{◌∙◌, true, false}
use Rattle.clap.specs.Words.{found_of}
use Rattle.clap.proofs.WalkLemmas.{one_text-rows}
use Rattle.sok_words.proofs.values.flag_of.Goals as goal

pub returns : goal.returns
returns c true has = c.get_flag.ensures.value (one_text-rows (found_of c.args.values.now) c.args.name.now ∙ has)
returns c false has = c.get_flag.ensures.other (one_text-rows (found_of c.args.values.now) c.args.name.now ∙ has)

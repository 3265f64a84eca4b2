use Rattle.std.proofs.Common.{option_map, sym, ap, ◌∙◌}
use Rattle.std.proofs.lemmas.Option.{none-some}
use Rattle.sok_rules.proofs.Proper.{level_of-missing}
use Rattle.sok_text.proofs.collection.Collection.level.Goals as goal

pub returns-in_ok-rows_of-in-Some-clause-missing : goal.returns-in_ok-rows_of-in-Some-clause-missing
returns-in_ok-rows_of-in-Some-clause-missing c = (
  λ missing. absurd (level_of-missing _ (sym c.new.ensures.made ∙ missing)),
  λ none. absurd (none-some _ (sym (c.in-Some.ensures ∙ ap (option_map (λ block. block.board)) none))),
)

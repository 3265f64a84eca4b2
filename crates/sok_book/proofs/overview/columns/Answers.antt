use Rattle.std.proofs.Common.{length, rules}
use Rattle.std.specs.Prelude.{max}
use Rattle.std.proofs.lemmas.Iterator.Consumers.{fold_from_yields_List}
use Rattle.std.proofs.lemmas.Iterator.Splits.{YieldsList-from_lines}
use Rattle.sok_book.proofs.overview.columns.Goals as goal

pub returns : goal.returns
returns c =
    fold_from_yields_List _ (λ most line. max most (length line)) 0 _ c.fold.ensures.ran (YieldsList-from_lines c.args.level.now c.lines.ensures.rest)
    (λ most line longer same k. search rules)

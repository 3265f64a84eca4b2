use Rattle.sok_store.proofs.Wider.{rows-kept-before}
use Rattle.sok_store.proofs.law.rows_kept_before_are_kept.Goals as goal

pub returns : goal.returns
returns c = rows-kept-before

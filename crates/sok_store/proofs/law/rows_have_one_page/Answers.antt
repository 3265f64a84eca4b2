use Rattle.sok_store.proofs.Leaves.{rows-have-one-page}
use Rattle.sok_store.proofs.law.rows_have_one_page.Goals as goal

pub returns : goal.returns
returns c = rows-have-one-page

use Rattle.sok_text.proofs.Cutting.{IsCut-parts_of, parts_of-IsCut}
use Rattle.sok_text.proofs.collection.boards_are_maximal_runs.Goals as goal

pub returns-clause-cut : goal.returns-clause-cut
returns-clause-cut c = IsCut-parts_of

pub returns-clause-only : goal.returns-clause-only
returns-clause-only c = parts_of-IsCut

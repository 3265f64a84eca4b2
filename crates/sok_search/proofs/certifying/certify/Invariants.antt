use Rattle.sok_price.specs.Matched.{Serves}
use Rattle.sok_search.specs.Finished.{AreTaken}
use Rattle.sok_search.specs.Views.{progress_of}
use Rattle.sok_search.proofs.certifying.certify.Given as goal

abbrev pub invariant-loop-index : goal.invariant-loop-index
invariant-loop-index g l = record {
  taken : AreTaken (λ entries. g.C.Entries.took entries l.entries) l.setting.board.now l.claim (progress_of l.search) l.index;
  serves : Serves l.setting.board.now l.matching;
}

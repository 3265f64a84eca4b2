use Rattle.std.proofs.Common.{subst, sym}
use Rattle.sok_search.specs.declared.finding.Finding.{Finding}
use Rattle.sok_search.specs.declared.improved.Improved.{Improved}
use Rattle.sok_search.specs.Outcomes.{IsImproved}
use Rattle.sok_search.proofs.Concluding.{found-beside}
use Rattle.sok_search.proofs.Refusing.{told-alike, told-also}
use Rattle.sok_search.proofs.solve.improve.Goals as goal

pub returns-in-Ok : goal.returns-in-Ok
returns-in-Ok c = record {
  improved = subst (IsImproved c.args.level.now c.args.limit c.args.best) (sym c.improved.ensures)
      (found-beside c.args.level.now c.args.limit c.args.best c.in-Ok.finding c.in-Ok.ensures.finding);
  tells = told-alike Finding Improved c.args.level.now c.args.limit c.in-Ok.finding _ c.in-Ok.ensures.tells;
}

pub returns-in-Err : goal.returns-in-Err
returns-in-Err c = record { improved = tt; tells = told-also Finding Improved c.args.level.now c.args.limit c.in-Err.fault c.in-Err.ensures.tells }

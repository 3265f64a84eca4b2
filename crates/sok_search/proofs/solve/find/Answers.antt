use Rattle.std.proofs.Common.{subst, sym}
use Rattle.sok_search.specs.declared.finding.Finding.{Finding}
use Rattle.sok_search.specs.declared.found.Found.{Found}
use Rattle.sok_search.specs.Outcomes.{IsFoundWithin}
use Rattle.sok_search.proofs.Concluding.{found-alone}
use Rattle.sok_search.proofs.Refusing.{told-alike, told-also}
use Rattle.sok_search.proofs.solve.find.Goals as goal

pub returns-in-Ok : goal.returns-in-Ok
returns-in-Ok c = record {
  found = subst (IsFoundWithin c.args.level.now c.args.limit) (sym c.found.ensures)
      (found-alone c.args.level.now c.args.limit c.in-Ok.finding c.in-Ok.ensures.finding);
  tells = told-alike Finding Found c.args.level.now c.args.limit c.in-Ok.finding _ c.in-Ok.ensures.tells;
}

pub returns-in-Err : goal.returns-in-Err
returns-in-Err c = record { found = tt; tells = told-also Finding Found c.args.level.now c.args.limit c.in-Err.fault c.in-Err.ensures.tells }

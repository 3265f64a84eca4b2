use Rattle.sok_search.specs.declared.found.Found.{Found}
use Rattle.sok_search.specs.declared.outcome.Outcome.{Outcome}
use Rattle.sok_search.proofs.Refusing.{told-alike, told-also}
use Rattle.sok_search.proofs.solve.outcome.Goals as goal

pub returns-in-Ok : goal.returns-in-Ok
returns-in-Ok c = record {
  answer = c.certified.ensures c.args.level.now c.args.limit c.in-Ok.ensures.shown;
  tells = told-alike Found Outcome c.args.level.now c.args.limit c.in-Ok.found _ c.in-Ok.ensures.tells;
}

pub returns-in-Err : goal.returns-in-Err
returns-in-Err c = record { answer = tt; tells = told-also Found Outcome c.args.level.now c.args.limit c.in-Err.fault c.in-Err.ensures.tells }

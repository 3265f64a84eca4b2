use Rattle.std.proofs.Common.{List, subst, sym}
use Rattle.sok_cert.specs.Entry.{Entry}
use Rattle.sok_search.specs.declared.finding.Finding.{Finding}
use Rattle.sok_search.specs.declared.improved.Improved.{Improved}
use Rattle.sok_search.specs.Outcomes.{IsImprovedWithProof}
use Rattle.sok_search.proofs.Concluding.{proved-beside}
use Rattle.sok_search.proofs.Refusing.{told-alike, told-also}
use Rattle.sok_search.proofs.solve.improve_into.Goals as goal

pub returns-in-Ok : goal.returns-in-Ok
returns-in-Ok g c =
    let Took : List Entry → Type 0 = λ taken. g.C.Entries.took taken c.search_into.new.entries in
    record {
      improved = subst (IsImprovedWithProof Took c.args.level.now c.args.limit c.args.bound c.args.best) (sym c.improved.ensures)
          (proved-beside Took c.args.level.now c.args.limit c.args.best c.args.bound c.in-Ok.finding c.in-Ok.ensures.finding);
      tells = told-alike Finding Improved c.args.level.now c.args.limit c.in-Ok.finding _ c.in-Ok.ensures.tells;
    }

pub returns-in-Err : goal.returns-in-Err
returns-in-Err g c = record { improved = tt; tells = told-also Finding Improved c.args.level.now c.args.limit c.in-Err.fault c.in-Err.ensures.tells }

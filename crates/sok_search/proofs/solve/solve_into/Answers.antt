use Rattle.std.proofs.Common.{List, subst, sym}
use Rattle.sok_cert.specs.Entry.{Entry}
use Rattle.sok_search.specs.declared.finding.Finding.{Finding}
use Rattle.sok_search.specs.declared.found.Found.{Found}
use Rattle.sok_search.specs.Outcomes.{IsFoundWithProof}
use Rattle.sok_search.proofs.Concluding.{proved-alone}
use Rattle.sok_search.proofs.Refusing.{told-alike, told-also}
use Rattle.sok_search.proofs.solve.solve_into.Goals as goal

pub returns-in-Ok : goal.returns-in-Ok
returns-in-Ok g c =
    let Took : List Entry → Type 0 = λ taken. g.C.Entries.took taken c.search_into.new.entries in
    record {
      shown = subst (IsFoundWithProof Took c.args.level.now c.args.limit c.args.bound) (sym c.found.ensures)
          (proved-alone Took c.args.level.now c.args.limit c.args.bound c.in-Ok.finding c.in-Ok.ensures.finding);
      tells = told-alike Finding Found c.args.level.now c.args.limit c.in-Ok.finding _ c.in-Ok.ensures.tells;
    }

pub returns-in-Err : goal.returns-in-Err
returns-in-Err g c = record { shown = tt; tells = told-also Finding Found c.args.level.now c.args.limit c.in-Err.fault c.in-Err.ensures.tells }

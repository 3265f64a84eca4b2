use Rattle.std.proofs.Common.{ℕ, List, ap₂, subst}
use Rattle.sqlite.specs.Files.{file_state}
use Rattle.sqlite.specs.Start.{FindsIn}
use Rattle.sqlite_wal.specs.Recovery.{Image}
use Rattle.sok_databases.proofs.copying.connect.Goals as goal

abbrev image : List ℕ → List ℕ → Image
image log db = record { log = log; db = db }

pub returns-in-Ok : goal.returns-in-Ok
returns-in-Ok c = λ clean.
    let found = c.in-Ok.ensures.found clean in
    subst (λ i. FindsIn i (file_state c.in-Ok.connection)) (ap₂ image c.in_ok-file_of.ensures.holds c.in_ok-file_of-2.ensures.holds)
    (record { holds = found.holds; reads = found.reads })

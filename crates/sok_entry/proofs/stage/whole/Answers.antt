use Rattle.std.proofs.Common.{sym, subst}
use Rattle.sok_entry.specs.declared.stage.Stage.TheVariants.{AtEntries}
use Rattle.sok_entry.specs.declared.stage.LineRead.TheVariants.{Listed}
use Rattle.sok_entry.specs.declared.version.Version.TheVariants.{Two}
use Rattle.sok_entry.specs.Stages.{IsRead}
use Rattle.sok_entry.proofs.Stages.{read-full}
use Rattle.sok_entry.proofs.stage.whole.Goals as goal

pub returns : goal.returns
returns c = λ ls es head_fits inner_fit many read.
    let claim = c.args.claim in
    subst (λ e. IsRead ls es (AtEntries Two claim) (Listed claim e (AtEntries Two claim))) (sym c.with.ensures)
    (read-full ls es claim c.args.head c.args.inner head_fits inner_fit many read)

use Rattle.std.proofs.Common.{◌+◌, ◌∷◌, ◌++◌, [], subst}
use Rattle.sok_entry.specs.declared.fault.CertFault.TheVariants.{Line}
use Rattle.sok_entry.specs.Stages.{AreWrong, IsStage}
use Rattle.sok_entry.proofs.Stages.{wrong-behind}
use Rattle.sok_entry.proofs.stage.Stage.line.Goals as goal

pub returns-in-AtEnd : goal.returns-in-AtEnd
returns-in-AtEnd c = λ ls es count at.
    let line = c.args.line.now in
    subst (λ n. AreWrong (ls ++ line ∷ []) (Line (n + 1))) count
    (wrong-behind ls es line c.in-AtEnd.field-0 (subst (IsStage ls es) c.in-AtEnd.is at))

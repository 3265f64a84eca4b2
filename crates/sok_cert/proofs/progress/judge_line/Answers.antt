use Rattle.std.proofs.Common.{◌++◌, ◌∷◌, [], sym, subst}
use Rattle.sok_entry.specs.Stages.{IsStage, MayClaim}
use Rattle.sok_cert.proofs.progress.judge_line.Goals as goal

pub returns-clause-judged : goal.returns-clause-judged
returns-clause-judged c = λ ls entries count judged.
    let now = c.replace-now.result in
    let same = c.replace-now.ensures.value in
    let read = c.in_ok-read.ensures ls entries count (subst (IsStage ls entries) (sym same) judged.at) in
    c.judge_read.ensures.judged now (ls ++ c.args.line.now ∷ []) entries (λ claim may. judged.tells claim (subst (λ s. MayClaim s claim) same may)) read

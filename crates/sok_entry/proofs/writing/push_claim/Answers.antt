use Rattle.std.proofs.Common.{arith}
use Rattle.std.proofs.lemmas.Fmt.{length-decimal-le}
use Rattle.std.proofs.lemmas.Grind.{common_steps}
use Rattle.sok_entry.proofs.writing.push_claim.Goals as goal

pub returns-in_err-push_decimal-in-Pushes-clause-full : goal.returns-in_err-push_decimal-in-Pushes-clause-full
returns-in_err-push_decimal-in-Pushes-clause-full c =
    let short = length-decimal-le 10 c.in-Pushes.pushes (omega arith) (omega arith) (omega arith) in
    grind (arith, common_steps)

pub returns-in_ok-push_decimal-in-Pushes-clause-full : goal.returns-in_ok-push_decimal-in-Pushes-clause-full
returns-in_ok-push_decimal-in-Pushes-clause-full c =
    let short = length-decimal-le 10 c.in-Pushes.pushes (omega arith) (omega arith) (omega arith) in
    grind (arith, common_steps)

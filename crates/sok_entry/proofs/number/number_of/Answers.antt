use Rattle.std.proofs.Common.{◌≤◌, arith, length}
use Rattle.std.proofs.lemmas.Bool.Decides.{nat_tests}
use Rattle.sok_entry.proofs.Fronts.{begins-alone, nothing-behind}
use Rattle.sok_entry.proofs.number.number_of.Goals as goal

pub returns-in_default : goal.returns-in_default
returns-in_default c = begins-alone c.args.word.now c.in_default.ensures

pub returns-else-is_empty : goal.returns-else-is_empty
returns-else-is_empty c =
    let some : 1 ≤ length c.in-Some.behind.now = grind (arith, nat_tests) in
    nothing-behind c.args.word.now c.in-Some.number c.in-Some.behind.now c.in-Some.ensures some

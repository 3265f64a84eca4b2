use Rattle.sok_entry.proofs.Claims.{IsClaimLine-pushes, no_pushes}
use Rattle.sok_entry.proofs.grammar.pushes_of.Goals as goal

pub returns-in-Some : goal.returns-in-Some
returns-in-Some c = IsClaimLine-pushes c.args.word.now c.in-Some.pushes c.in-Some.ensures

pub returns-in-None : goal.returns-in-None
returns-in-None c = no_pushes c.args.word.now c.in-None.ensures

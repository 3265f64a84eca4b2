use Rattle.std.proofs.Common.{codes}
use Rattle.std.proofs.lemmas.Bool.Decides.{Decides-eqb}
use Rattle.std.proofs.lemmas.Slice.Eq.{slice_eq-Decides, strip_prefix_is}
use Rattle.sok_entry.proofs.Claims.{IsClaimLine-unsolvable, no_claim}
use Rattle.sok_entry.proofs.grammar.claim_of_line.Goals as goal

pub returns-then-eq : goal.returns-then-eq
returns-then-eq c = IsClaimLine-unsolvable c.args.line.now
    ((slice_eq-Decides Decides-eqb c.args.line.now (codes "unsolvable") c.eq.result c.eq.ensures).0 c.if-eq.true)

pub returns-in-None : goal.returns-in-None
returns-in-None c =
    let line = c.args.line.now in
    let plain = slice_eq-Decides Decides-eqb line (codes "unsolvable") c.eq.result c.eq.ensures in
    no_claim line (λ same. let yes = plain.1 same in cc)
    (rw c.in-None.is at (strip_prefix_is Decides-eqb line (codes "pushes ") c.strip_prefix.result c.strip_prefix.ensures.cases))

use Rattle.std.proofs.Common.{◌∙◌, sym, subst, Contains, true≢false}
use Rattle.sok_region.proofs.Regions.{Contains-squares_of}
use Rattle.sok_region.proofs.region.Region.least.Goals as goal

pub returns-in-Some-clause-among : goal.returns-in-Some-clause-among
returns-in-Some-clause-among c =
    subst (λ squares. Contains squares c.in-Some.square) c.self.view_is ((Contains-squares_of c.self.inside.words c.in-Some.square).1 c.in-Some.ensures.among)

pub returns-in-Some-clause-least : goal.returns-in-Some-clause-least
returns-in-Some-clause-least c = λ s there.
    c.in-Some.ensures.least s ((Contains-squares_of c.self.inside.words s).0 (subst (λ squares. Contains squares s) (sym c.self.view_is) there))

pub returns-in-None : goal.returns-in-None
returns-in-None c =
    let (s, here) = c.self.invariant in
    absurd (true≢false (sym here ∙ c.in-None.ensures s))

use Rattle.sok_price.proofs.Words.{Holds, IsMatchedTo, Serves, subst, sym}
use Rattle.sok_price.proofs.Sparing.{AreKept-matched, HasWorth-whole, Holds-matched, Serves-same, TellsLeast-whole}
use Rattle.sok_price.proofs.matching.Matching.set.Goals as goal

pub worth-requires : goal.worth-requires
worth-requires c =
    let is = subst (IsMatchedTo c.list.result.now) (sym c.self.view_is) (c.match_to.ensures.matched c.if-not-match_to.false) in
    HasWorth-whole is.whole is.square

pub returns-clause-serves : goal.returns-clause-serves
returns-clause-serves c = λ b serves. Serves-same c.match_to.ensures.same serves

pub returns-clause-least : goal.returns-clause-least
returns-clause-least c = λ b serves.
    let boxes = c.args.boxes.now in
    let own = c.self.inside in
    let is = subst (IsMatchedTo boxes) (sym c.self.view_is) (subst (λ bs. IsMatchedTo bs c.match_to.new.self) c.list.ensures.list
    (c.match_to.ensures.matched c.if-not-match_to.false)) in
    let here = subst (Serves b) (sym c.self.view_is) (Serves-same c.match_to.ensures.same serves) in
    TellsLeast-whole b own.costs own.rows.items own.search c.worth.result boxes (AreKept-matched here is) is.whole c.worth.ensures

pub returns-clause-holds : goal.returns-clause-holds
returns-clause-holds c = λ b serves.
    subst (λ bs. Holds b bs c.match_to.new.self) c.list.ensures.list
    (Holds-matched (Serves-same c.match_to.ensures.same serves) (c.match_to.ensures.matched c.if-not-match_to.false))

use Rattle.std.proofs.Common.{arith}
use Rattle.sok_search.specs.Views.{progress_of}
use Rattle.sok_search.proofs.Certified.{done-finished}
use Rattle.sok_search.proofs.Concluding.{both-found, concluded}
use Rattle.sok_search.proofs.solve.conclude.Goals as goal

pub certify-requires-clause-done : goal.certify-requires-clause-done
certify-requires-clause-done g c = done-finished c.args.setting.now.board.now c.requires.search.0 (progress_of c.args.search.now) _ c.requires.search.1
    c.requires.finished c.claim_of-claim.ensures

pub find_in-requires-clause-search : goal.find_in-requires-clause-search
find_in-requires-clause-search g c = (c.requires.search.0, c.requires.search.1)

pub returns : goal.returns
returns g c = λ limit wanted search.
    let p = progress_of c.args.search.now in
    let few = c.requires.search.1.few in
    let small = c.requires.search.2 in
    both-found c.find_in.result _ _ _
    (concluded c.args.setting.now.board.now c.requires.accepted limit p search c.requires.finished c.requires.whole (omega (arith, few, small)) c.requires.fits _ _
    c.claim_of-claim.ensures c.in_ok-certify.ensures wanted)
    (c.find_in.ensures.finding limit search) c.find_in.ensures.best

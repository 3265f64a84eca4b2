use Rattle.std.proofs.Common.{◌+◌, arith, nat_le}
use Rattle.std.proofs.lemmas.Bool.Decides.{nat_tests}
use Rattle.sok_board.proofs.Beside.{beside-within}
use Rattle.sok_state.proofs.Stepped.{ComesNext, comes-next}
use Rattle.sok_closed.proofs.Looking.{IsMissing-absent, TellsFound-near}
use Rattle.sok_closed.proofs.Starting.{at-within}
use Rattle.sok_closed.proofs.following.is_found.Goals as goal
use Rattle.sok_closed.proofs.following.is_found.Goals.{After-step-least}

-- the push leads to a state
comes_in : (c : After-step-least) → ComesNext c.args.board.now c.args.key.now c.args.push c.square_ahead-to.result c.step-least.result
comes_in c = comes-next c.args.board.now c.requires.accepted c.args.key.now c.args.push c.square_ahead-to.result c.step-least.result c.args.scene.now
    c.requires.pushable c.square_ahead-to.ensures c.step-least.ensures.next

pub get_next-requires-clause-exists : goal.get_next-requires-clause-exists
get_next-requires-clause-exists c = at-within c.args.table.now.entries c.args.key.now c.args.index c.requires.there

pub get_next-requires-clause-from : goal.get_next-requires-clause-from
get_next-requires-clause-from c =
    let exists = c.requires.pushable.legal.leads.exists in
    let wide = c.requires.wide in
    omega (arith, exists, wide)

pub get_next-requires-clause-to : goal.get_next-requires-clause-to
get_next-requires-clause-to c =
    let exists = beside-within c.args.board.now c.args.push.dir c.args.push.from c.square_ahead-to.result c.square_ahead-to.ensures in
    let wide = c.requires.wide in
    omega (arith, exists, wide)

pub depth-requires : goal.depth-requires
depth-requires c =
    let comes = comes_in ((goal.at.depth-requires c).After-step-least) in
    at-within c.args.table.now.entries _ c.in-Some.at (c.in-Some.ensures.there c.args.key.now _ c.requires.there comes.is)

pub returns-in-Some-clause-found : goal.returns-in-Some-clause-found
returns-in-Some-clause-found c =
    let left = c.from.ensures in
    let right = c.from-in-Some.ensures in
    let b = c.args.board.now in
    let table = c.args.table.now.entries in
    let key = c.args.key.now in
    let comes = comes_in ((goal.at.returns-in-Some-clause-found c).After-step-least) in
    TellsFound-near b c.requires.accepted.numbered table c.requires.distinct key c.args.depth c.args.push _ comes.came.exact c.in-Some.at c.depth.result
    (c.in-Some.ensures.there key _ c.requires.there comes.is) c.depth.ensures (nat_le c.from.result (c.from-in-Some.result + 1))
    (λ near. grind (arith, nat_tests, left, right, near)) (λ far near. grind (arith, nat_tests, left, right, far, near))

pub returns-in-None-clause-found : goal.returns-in-None-clause-found
returns-in-None-clause-found c =
    let key = c.args.key.now in
    let comes = comes_in ((goal.at.returns-in-None-clause-found c).After-step-least) in
    IsMissing-absent c.args.board.now c.requires.accepted.numbered c.args.table.now.entries key c.args.depth c.args.push _ comes.came.exact
    (c.in-None.ensures.absent key _ c.requires.there comes.is)

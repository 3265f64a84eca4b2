use Rattle.std.proofs.Common.{◌≡◌, ◌⊎◌, ◌↔◌, subst, IsTrue}
use Rattle.sok_rules.specs.declared.cell.Spot.{Spot}
use Rattle.sok_board.proofs.Beside.{beside-within}
use Rattle.sok_field.specs.Fields.{has}
use Rattle.sok_field.proofs.Drawings.{in_field}
use Rattle.sok_state.proofs.Surroundings.{kept-reached, least-key, placed_after}
use Rattle.sok_state.proofs.around.reach_after.Goals as goal

pub keeps_reached-requires-clause-from : goal.keeps_reached-requires-clause-from
keeps_reached-requires-clause-from c = let (after, stepping) = c.requires.stepping in stepping.legal.leads.exists

pub keeps_reached-requires-clause-to : goal.keeps_reached-requires-clause-to
keeps_reached-requires-clause-to c =
    let (after, stepping) = c.requires.stepping in
    beside-within c.args.board.now c.args.push.dir c.args.push.from c.args.to stepping.ahead

pub least_square-requires-clause-drawn : goal.least_square-requires-clause-drawn
least_square-requires-clause-drawn c =
    let (after, stepping) = c.requires.stepping in (
      after,
      placed_after c.args.board.now c.requires.accepted c.args.key.now c.args.push c.args.to c.args.free.now c.args.reached.now after stepping,
      stepping.left,
    )

pub returns-then-keeps_reached-clause-key : goal.returns-then-keeps_reached-clause-key
returns-then-keeps_reached-clause-key c = λ after stepping.
    let keeps = c.if-keeps_reached.true in
    let kept = c.keeps_reached.ensures in
    least-key c.args.board.now c.requires.accepted c.args.key.now c.args.push c.args.to c.args.free.now c.args.reached.now after stepping
    (kept.near keeps) (kept.round keeps) (kept.apart keeps) c.min.result c.min.ensures

pub returns-else-keeps_reached-clause-key : goal.returns-else-keeps_reached-clause-key
returns-else-keeps_reached-clause-key c = λ after stepping.
    c.least_square.ensures.key after
    (placed_after c.args.board.now c.requires.accepted c.args.key.now c.args.push c.args.to c.args.free.now c.args.reached.now after stepping)
    stepping.left

pub put-requires : goal.put-requires
put-requires c =
    let (after, stepping) = c.requires.stepping in
    let (row, col) = in_field c.args.board.now c.requires.accepted c.args.push.from stepping.legal.leads.exists _ c.spot.ensures.spot in
    record { row = row; col = col }

pub take-requires : goal.take-requires
take-requires c =
    let (after, stepping) = c.requires.stepping in
    let within = beside-within c.args.board.now c.args.push.dir c.args.push.from c.args.to stepping.ahead in
    let (row, col) = in_field c.args.board.now c.requires.accepted c.args.to within _ c.spot-then-keeps_reached.ensures.spot in
    record { row = row; col = col }

pub returns-then-keeps_reached-clause-reached : goal.returns-then-keeps_reached-clause-reached
returns-then-keeps_reached-clause-reached c = λ after stepping.
    let keeps = c.if-keeps_reached.true in
    let kept = c.keeps_reached.ensures in
    kept-reached c.args.board.now c.requires.accepted c.args.key.now c.args.push c.args.to c.args.free.now c.args.reached.now after stepping
    (kept.near keeps) (kept.round keeps) c.put.new.self c.take.new.self
    (subst (λ at. (s : Spot) → IsTrue (has c.put.new.self s) ↔ ((s ≡ at) ⊎ IsTrue (has c.args.reached.now s))) c.spot.ensures.spot c.put.ensures)
    (subst (λ at. (s : Spot) → IsTrue (has c.take.new.self s) ↔ ((s ≡ at → ⊥) × IsTrue (has c.put.new.self s))) c.spot-then-keeps_reached.ensures.spot c.take.ensures)

pub returns-else-keeps_reached-clause-reached : goal.returns-else-keeps_reached-clause-reached
returns-else-keeps_reached-clause-reached c = λ after stepping.
    c.least_square.ensures.reached after
    (placed_after c.args.board.now c.requires.accepted c.args.key.now c.args.push c.args.to c.args.free.now c.args.reached.now after stepping)
    stepping.left

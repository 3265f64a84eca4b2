use Rattle.std.proofs.Common.{refl}
use Rattle.sok_state.proofs.LegalPushes.{clear-legal}
use Rattle.sok_state.proofs.Stepped.{clear-after, placed-after}
use Rattle.sok_state.proofs.Surroundings.{IsStepping-shifted, Reaches-key, key-behind}
use Rattle.sok_state.proofs.scene.Scene.follow.Goals as goal

pub reach_after-least-requires-clause-stepping : goal.reach_after-least-requires-clause-stepping
reach_after-least-requires-clause-stepping c =
    let moved = c.in_ok-boxes.ensures in (
      c.in_ok-boxes.boxes,
      IsStepping-shifted c.args.board.now c.requires.accepted c.args.key.now c.args.push c.square_ahead-to.result c.args.self.now c.shift.new.self
          c.free-free.result.now c.in_ok-boxes.boxes c.requires.pushable c.square_ahead-to.ensures moved.moved moved.rising c.shift.ensures
          c.free-free.ensures,
    )

pub returns-clause-after : goal.returns-clause-after
returns-clause-after c =
    let b = c.args.board.now in
    let key = c.args.key.now in
    let to = c.square_ahead-to.result in
    let boxes = c.in_ok-boxes.boxes in
    let moved = c.in_ok-boxes.ensures in
    let stepping = IsStepping-shifted b c.requires.accepted key c.args.push to c.args.self.now c.shift.new.self c.free-free.result.now boxes
    c.requires.pushable c.square_ahead-to.ensures moved.moved moved.rising c.shift.ensures c.free-free.ensures in
    key-behind b c.requires.accepted key (record { boxes = boxes; least = c.reach_after-least.result }) c.args.push to c.args.self.now c.requires.pushable
    c.square_ahead-to.ensures (record { moved = moved.moved; rising = moved.rising; least_is = refl }) (c.reach_after-least.ensures.key boxes stepping)

pub returns-clause-opened : goal.returns-clause-opened
returns-clause-opened c =
    let b = c.args.board.now in
    let key = c.args.key.now in
    let push = c.args.push in
    let to = c.square_ahead-to.result in
    let boxes = c.in_ok-boxes.boxes in
    let moved = c.in_ok-boxes.ensures in
    let can = c.requires.pushable in
    let ahead = c.square_ahead-to.ensures in
    let there = (clear-legal b c.requires.accepted.numbered key can.state.is.placed push can.legal).0 in
    let clear = clear-after b c.requires.accepted key push to can.state can.legal ahead in
    let placed = placed-after b c.requires.accepted key push to boxes can.state can.legal ahead moved.moved moved.rising in
    let stepping = IsStepping-shifted b c.requires.accepted key push to c.args.self.now c.shift.new.self c.free-free.result.now boxes can ahead moved.moved
    moved.rising c.shift.ensures c.free-free.ensures in
    record {
      laid = c.shift.ensures key.boxes boxes can.opened.laid there clear moved.moved;
      reached = Reaches-key b c.requires.accepted boxes push.from c.reach_after-least.result c.reach_after-least.new.reached placed
          (c.reach_after-least.ensures.key boxes stepping) (c.reach_after-least.ensures.reached boxes stepping);
    }

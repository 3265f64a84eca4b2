use Rattle.std.proofs.Common.{inl, refl, subst, sym}
use Rattle.sok_board.specs.Area.{position_of}
use Rattle.sok_state.specs.Keys.{IsKeyOf}
use Rattle.sok_state.specs.Tables.{IsNext}
use Rattle.sok_state.proofs.LegalPushes.{clear-legal}
use Rattle.sok_state.proofs.Stepped.{clear-after, moved-back, next-made, next_of, placed-after}
use Rattle.sok_state.proofs.Surroundings.{IsStepping-shifted, key-behind}
use Rattle.sok_state.proofs.scene.Scene.step.Goals as goal

pub least_after-least-requires-clause-stepping : goal.least_after-least-requires-clause-stepping
least_after-least-requires-clause-stepping c =
    let b = c.args.board.now in
    let key = c.args.key.now in
    let push = c.args.push in
    let (next, _) = next-made b c.requires.accepted key push c.args.to 0 c.args.self.now c.requires.pushable c.requires.ahead in
    let after = (next_of key push.from c.args.to 0).boxes in (
      after,
      IsStepping-shifted b c.requires.accepted key push c.args.to c.args.self.now c.shift.new.self c.free-free.result.now after c.requires.pushable
          c.requires.ahead next.moved next.rising c.shift.ensures c.free-free.ensures,
    )

pub returns-clause-opened : goal.returns-clause-opened
returns-clause-opened c =
    let b = c.args.board.now in
    let key = c.args.key.now in
    let push = c.args.push in
    let ahead = c.args.to in
    let ahead_is = c.requires.ahead in
    let can = c.requires.pushable in
    let (next, as_many) = next-made b c.requires.accepted key push ahead 0 c.args.self.now can ahead_is in
    let boxes = (next_of key push.from ahead 0).boxes in
    let there = (clear-legal b c.requires.accepted.numbered key can.state.is.placed push can.legal).0 in
    let free = clear-after b c.requires.accepted key push ahead can.state can.legal ahead_is in
    let placed = placed-after b c.requires.accepted key push ahead boxes can.state can.legal ahead_is next.moved next.rising in
    record {
      laid = c.shift-2.ensures boxes key.boxes (c.shift.ensures key.boxes boxes can.opened.laid there free next.moved) ((next.moved ahead).1 (inl refl))
          placed.free (moved-back key.boxes boxes push.from ahead there free next.moved);
      reached = can.opened.reached;
    }

pub returns-clause-next : goal.returns-clause-next
returns-clause-next c = λ next is.
    let b = c.args.board.now in
    let key = c.args.key.now in
    let push = c.args.push in
    let to = c.args.to in
    let can = c.requires.pushable in
    let comes : IsNext key push.from to next.least next = record { moved = is.moved; rising = is.rising; least_is = refl } in
    let stepping = IsStepping-shifted b c.requires.accepted key push to c.args.self.now c.shift.new.self c.free-free.result.now next.boxes can
    c.requires.ahead is.moved is.rising c.shift.ensures c.free-free.ensures in
    key-behind b c.requires.accepted key next push to c.args.self.now can c.requires.ahead comes (subst
    (λ n. IsKeyOf b (position_of b push.from next.boxes) (record { boxes = next.boxes; least = n })) (sym is.least_is)
    (c.least_after-least.ensures next.boxes stepping))

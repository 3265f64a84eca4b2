use Rattle.std.proofs.Common.{arith}
use Rattle.sok_alone.specs.Losses.{HasRoom, losses_of}
use Rattle.sok_alone.proofs.Numbering.{none-numbered, numbered-more, place-numbered}
use Rattle.sok_alone.proofs.losses.Losses.recall.Goals as goal

pub returns-in-Some-clause-there : goal.returns-in-Some-clause-there
returns-in-Some-clause-there c =
    let b = c.args.setting.now.board.now in
    let losses = losses_of c.args.self.now in
    let is = c.requires.losses.numbered.each c.in-Some.index c.args.key.now c.depth.result c.in-Some.ensures c.depth.ensures in
    place-numbered b losses c.args.key.now c.depth.result is c.checked_sub.result c.checked_sub.ensures

pub returns-in-Some-clause-none : goal.returns-in-Some-clause-none
returns-in-Some-clause-none c =
    let b = c.args.setting.now.board.now in
    let losses = losses_of c.args.self.now in
    let is = c.requires.losses.numbered.each c.in-Some.index c.args.key.now c.depth.result c.in-Some.ensures c.depth.ensures in
    none-numbered b losses c.args.key.now c.depth.result is (HasRoom c.args.self.now) c.checked_sub.result c.checked_sub.ensures

pub returns-clause-more : goal.returns-clause-more
returns-clause-more c =
    let found = c.find.new.self in
    let more = c.in_ok-number.ensures.more in
    record {
      losses = record {
        room = omega (arith, more.losses.room, c.insert.ensures.room);
        each = more.losses.each;
        numbered = numbered-more c.args.setting.now.board.now (losses_of found) found.asked c.insert.new.self c.args.key.now c.in_ok-number.number c.in_ok-number.ensures.number
            more.losses.numbered c.in_ok-_index._index c.in_ok-_index._is_new c.in_ok-_index.ensures.inserted;
        workspace = more.losses.workspace;
      };
      kept = more.kept;
    }

pub returns-clause-there : goal.returns-clause-there
returns-clause-there c =
    place-numbered c.args.setting.now.board.now (losses_of c.find.new.self) c.args.key.now c.in_ok-number.number c.in_ok-number.ensures.number
    c.checked_sub-2.result c.checked_sub-2.ensures

pub returns-clause-none : goal.returns-clause-none
returns-clause-none c =
    none-numbered c.args.setting.now.board.now (losses_of c.find.new.self) c.args.key.now c.in_ok-number.number c.in_ok-number.ensures.number
    (HasRoom c.find.new.self) c.checked_sub-2.result c.checked_sub-2.ensures

use Rattle.std.proofs.Common.{◌<◌, List, ℕ, All, length, subst, sym}
use Rattle.sok_price.specs.Matched.{TellsLeast}
use Rattle.sok_board.specs.BoxSets.{put_in_order}
use Rattle.sok_state.proofs.Moves.{moved-same}
use Rattle.sok_search.proofs.push_scratch.bound_after.Goals as goal

pub returns-then-push_scratch-clause-least : goal.returns-then-push_scratch-clause-least
returns-then-push_scratch-clause-least c =
    let moved = c.requires.moved in
    c.bound_after.ensures.least c.args.board.now c.args.before.now (put_in_order c.args.from c.args.to c.args.before.now)
    (c.match_boxes.ensures.push_scratch.holds c.if-push_scratch.true) moved.moved moved.after_exist moved.rising

pub set-requires : goal.set-requires
set-requires c =
    let moved = c.requires.moved in
    let after = c.in_ok-after in
    let same = moved-same c.args.before.now _ after.after c.args.from c.args.to moved.moved moved.rising after.ensures.moved after.ensures.rising in
    let exist = subst (All (λ square. square < length c.args.board.now.area)) same moved.after_exist in
    record { exist = subst (λ n. All (λ square. square < n) after.after) (sym c.match_boxes.ensures.push_scratch.serves.squares) exist }

pub returns-clause-least : goal.returns-clause-least
returns-clause-least c =
    let moved = c.requires.moved in
    let after = c.in_ok-after in
    let same = moved-same c.args.before.now _ after.after c.args.from c.args.to moved.moved moved.rising after.ensures.moved after.ensures.rising in
    subst (λ (boxes : List ℕ). TellsLeast c.args.board.now boxes c.set.result) (sym same)
    (c.set.ensures.least c.args.board.now c.match_boxes.ensures.push_scratch.serves)

use Rattle.std.proofs.Common.{◌<◌, All, Contains, length, subst, sym}
use Rattle.sok_field.specs.Numbers.{Draws}
use Rattle.sok_state.proofs.States.{tells-states}
use Rattle.sok_state.proofs.key.key_over.Goals as goal

pub take_boxes-requires : goal.take_boxes-requires
take_boxes-requires c =
    let b = c.args.board.now in
    record {
      accepted = c.requires.accepted;
      exist = subst (λ boxes. All (λ n. n < length b.area) boxes) (sym c.list.ensures.list) c.requires.placed.boxes_exist;
      drawn = c.requires.drawn;
    }

pub least_square-least-requires-clause-drawn : goal.least_square-least-requires-clause-drawn
least_square-least-requires-clause-drawn c = (
  c.args.boxes,
  c.requires.placed,
  subst (λ boxes. Draws c.args.board.now (λ n. Contains boxes n → ⊥) c.take_boxes.new.field) c.list.ensures.list c.take_boxes.ensures,
)

pub returns-clause-key : goal.returns-clause-key
returns-clause-key c = c.least_square-least.ensures.key c.args.boxes c.requires.placed
    (subst (λ boxes. Draws c.args.board.now (λ n. Contains boxes n → ⊥) c.take_boxes.new.field) c.list.ensures.list c.take_boxes.ensures)

pub returns-clause-of_board : goal.returns-clause-of_board
returns-clause-of_board c = record { player = c.args.player; boxes = c.args.boxes; placed = c.requires.placed; is = returns-clause-key c }

pub returns-clause-tells : goal.returns-clause-tells
returns-clause-tells c = tells-states c.args.board.now c.requires.accepted.numbered c.requires.accepted.proper c.args.player c.args.boxes
    (record { boxes = c.args.boxes; least = c.least_square-least.result }) c.requires.placed (returns-clause-key c)

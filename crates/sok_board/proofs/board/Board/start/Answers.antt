use Rattle.std.proofs.Common.{◌<◌, All, ap, sym, ◌∙◌, subst, length}
use Rattle.std.specs.List.Sorted.{IsStrictlyIncreasing}
use Rattle.sok_rules.specs.Squares.{holds, is_box}
use Rattle.sok_board.specs.Area.{spot_of, position_of}
use Rattle.sok_board.specs.Boards.{IsNumbering}
use Rattle.sok_board.proofs.Numbering.{rising-chosen, below-chosen}
use Rattle.sok_board.proofs.Positions.{position_of-start}
use Rattle.sok_board.proofs.board.Board.start.Goals as goal

pub returns-clause-rising : goal.returns-clause-rising
returns-clause-rising c =
    let b = c.args.self.now in
    let kept = subst (λ a. IsNumbering a c.self.inside.numbering) c.self.view_is c.self.invariant in
    subst IsStrictlyIncreasing (sym (c.deref.ensures.value ∙ kept.boxes)) (rising-chosen (λ n. holds is_box b.rows (spot_of b n)) (length b.area))

pub returns-clause-boxes_exist : goal.returns-clause-boxes_exist
returns-clause-boxes_exist c =
    let b = c.args.self.now in
    let kept = subst (λ a. IsNumbering a c.self.inside.numbering) c.self.view_is c.self.invariant in
    subst (All (λ n. n < length b.area)) (sym (c.deref.ensures.value ∙ kept.boxes)) (below-chosen (λ n. holds is_box b.rows (spot_of b n)) (length b.area))

pub returns-clause-position : goal.returns-clause-position
returns-clause-position c =
    let b = c.args.self.now in
    let kept = subst (λ a. IsNumbering a c.self.inside.numbering) c.self.view_is c.self.invariant in
    ap (position_of b c.self.inside.numbering.player) (c.deref.ensures.value ∙ kept.boxes)
    ∙ position_of-start b kept.accepted.numbered c.self.inside.numbering.player kept.player

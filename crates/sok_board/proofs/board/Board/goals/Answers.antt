use Rattle.std.proofs.Common.{◌<◌, All, sym, ◌∙◌, subst, length}
use Rattle.std.specs.List.Sorted.{IsStrictlyIncreasing}
use Rattle.sok_rules.specs.Squares.{holds, is_goal}
use Rattle.sok_board.specs.Area.{spot_of}
use Rattle.sok_board.specs.Boards.{IsNumbering}
use Rattle.sok_board.proofs.Numbering.{rising-chosen, below-chosen}
use Rattle.sok_board.proofs.board.Board.goals.Goals as goal

pub returns-clause-rising : goal.returns-clause-rising
returns-clause-rising c =
    let b = c.args.self.now in
    let kept = subst (λ a. IsNumbering a c.self.inside.numbering) c.self.view_is c.self.invariant in
    subst IsStrictlyIncreasing (sym (c.deref.ensures.value ∙ kept.goals)) (rising-chosen (λ n. holds is_goal b.rows (spot_of b n)) (length b.area))

pub returns-clause-exist : goal.returns-clause-exist
returns-clause-exist c =
    let b = c.args.self.now in
    let kept = subst (λ a. IsNumbering a c.self.inside.numbering) c.self.view_is c.self.invariant in
    subst (All (λ n. n < length b.area)) (sym (c.deref.ensures.value ∙ kept.goals)) (below-chosen (λ n. holds is_goal b.rows (spot_of b n)) (length b.area))

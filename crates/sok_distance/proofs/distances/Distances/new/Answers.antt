use Rattle.std.proofs.Common.{◌≡◌, ap, sym, ◌∙◌, subst, length}
use Rattle.sok_board.specs.Area.{BoardView}
use Rattle.sok_distance.specs.Distances.{IsFilled, IsKept}
use Rattle.sok_distance.proofs.distances.Distances.new.Goals as goal

pub invariant_of-result : goal.invariant_of-result
invariant_of-result c =
    let rows = sym (c.in_ok-level.ensures.same ∙ c.level.ensures.level) in
    let squares = sym c.in_ok-squares.ensures in
    let count = ap length c.goals.ensures.goals in
    let filled = subst (λ n. IsFilled n (record { board = c.args.board.now; entries = c.in_ok-entries.entries.items })) (sym count) c.in_ok-entries.ensures in
    let same : c.args.board.now ≡ record { rows = c.in_ok-level.level; area = c.in_ok-squares.squares.items } =
    λ i. record { rows = rows i; area = squares i } in
    subst (λ (b : BoardView). IsKept (length c.goals.result.now) c.in_ok-stuck.stuck.items (record { board = b; entries = c.in_ok-entries.entries.items })) same
    (record { accepted = c.goals.ensures.accepted; count = count; filled = filled; told = c.in_ok-stuck.ensures })

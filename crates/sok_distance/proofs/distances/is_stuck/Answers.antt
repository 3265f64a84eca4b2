use Rattle.std.proofs.Common.{◌≡◌, ◌<◌, ◌+◌, ◌*◌, None, ap, sym, ◌∙◌, refl, arith, true, true≢false, length, get_or, is_some}
use Rattle.sok_board.specs.Area.{goals_of}
use Rattle.sok_distance.specs.Distances.{distance_at}
use Rattle.sok_distance.proofs.Filled.{with_entries, IsStuck-none, IsStuck-some}
use Rattle.sok_distance.proofs.distances.is_stuck.Goals as goal

pub returns-then-is_some : goal.returns-then-is_some
returns-then-is_some c =
    let b = c.args.board.now in
    let k = c.loop-goal.goal in
    let square = c.args.square in
    let below : k < length (goals_of b) = let goals = ap length c.goals-goal-end.ensures.goals in let end = c.loop-goal.auto.goal-end in
    let test = c.loop-goal-test.true in omega (arith, goals, end, test) in
    let told = c.requires.filled.exact k square below c.requires.exists in
    let read : is_some (distance_at (with_entries b c.args.entries.now) k square) ≡ true =
    ap (λ w. is_some (get_or c.args.entries.now (k * w + square) None)) (sym c.squares-squares.ensures.count) ∙ sym c.if-is_some.ensures in (
      λ e. absurd (true≢false (sym e)),
      λ stuck. absurd (IsStuck-some b k square (distance_at (with_entries b c.args.entries.now) k square) below told read stuck),
    )

pub returns : goal.returns
returns c =
    let b = c.args.board.now in
    let end : c.loop-goal.goal ≡ length (goals_of b) = let goals = ap length c.goals-goal-end.ensures.goals in let end = c.loop-goal.auto.goal-end in
    let test = c.loop-goal-test.false in omega (arith, goals, end, test) in (
      λ _. IsStuck-none (with_entries b c.args.entries.now) (length (goals_of b)) c.args.square refl c.requires.filled c.requires.exists
          (λ k below. c.loop-goal.invariant k (omega (arith, below, end))),
      λ _. refl,
    )

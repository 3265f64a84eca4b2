use Rattle.std.proofs.Common.{◌≡◌, ◌∙◌, ◌+◌, ◌++◌, sym, ap, subst, arith, length, get_or, None}
use Rattle.sok_board.specs.Area.{goals_of}
use Rattle.sok_distance.specs.Pushing.{TellsDistance}
use Rattle.sok_distance.specs.Distances.{goal_at, IsFilled}
use Rattle.sok_distance.proofs.Filled.{IsFilled-more, with_entries}
use Rattle.sok_distance.proofs.Pulls.{tells-distance}
use Rattle.sok_distance.proofs.distances.entries.Goals as goal

pub loop-goal-preserved : goal.loop-goal-preserved
loop-goal-preserved c =
    let b = c.args.board.now in
    let k = c.loop-goal.goal-index in
    let found = c.in_ok-search.ensures in
    let row = c.in_ok-search.search.depths.items in
    let goals = c.goals-goal-items.ensures in
    let g = get_or c.goals-goal-items.result.now k 0 in
    let goal_is : g ≡ goal_at b k = ap (λ goals. get_or goals k 0) goals.goals in
    let exists = goals.exist k 0 (let before = c.loop-goal-test.true in let end = c.loop-goal.auto.goal-index-end in omega (arith, before, end)) in
    let more = IsFilled-more b k c.loop-goal.entries.items row c.loop-goal.invariant found.whole (λ square within.
    subst (λ g. TellsDistance b g square (get_or row square None)) goal_is
    (tells-distance b goals.accepted.numbered g exists square within (get_or row square None) (found.exact square))) found.bounded in
    let pushed = c.in_ok-extend_from_slice.ensures.items ∙ ap (λ s. c.loop-goal.entries.items ++ s) c.deref.ensures.value in
    subst (λ entries. IsFilled (k + 1) (with_entries b entries)) (sym pushed) more

pub returns : goal.returns
returns c =
    let all : c.loop-goal.goal-index ≡ length (goals_of c.args.board.now) =
    let past = c.loop-goal-test.false in let end = c.loop-goal.auto.goal-index-end in let long = ap length c.goals-goal-items.ensures.goals in
    omega (arith, past, end, long) in
    subst (λ n. IsFilled n (with_entries c.args.board.now c.loop-goal.entries.items)) all c.loop-goal.invariant

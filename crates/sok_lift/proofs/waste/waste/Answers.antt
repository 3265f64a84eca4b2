use Rattle.std.proofs.Common.{arith, below_more}
use Rattle.sok_distance.specs.Distances.{goal_at}
use Rattle.sok_lift.proofs.Wasting.{wasted_at}
use Rattle.sok_lift.proofs.Spares.{Wastes-goals, WastesTo, WastesTo-less}
use Rattle.sok_lift.proofs.waste.waste.Goals as goal

pub loop-goal-preserved : goal.loop-goal-preserved
loop-goal-preserved c =
    let b = c.args.distances.now.board in
    let from = c.args.from in
    let to = c.args.to in
    let goal = c.loop-goal.goal in
    let spare = c.in_ok-spare.spare in
    let least = c.min-least.result in
    let is = c.min-least.ensures in
    let here : WastesTo b from to (goal_at b goal) spare = λ n chain.
    wasted_at b (goal_at b goal) from to spare n c.dist.result c.dist-in-loop-goal.result c.dist.ensures.exact c.dist-in-loop-goal.ensures.exact
    c.in_ok-spare.ensures chain in
    below_more (λ k. WastesTo b from to (goal_at b k) least) goal
    (λ k below. WastesTo-less b from to (goal_at b k) c.loop-goal.least least (omega (arith, is)) (c.loop-goal.invariant k below))
    (WastesTo-less b from to (goal_at b goal) spare least (omega (arith, is)) here)

pub returns : goal.returns
returns c = Wastes-goals c.args.distances.now.board c.args.from c.args.to c.loop-goal.least c.loop-goal.goal
    (let count = c.goals-goal-end.ensures.count in let past = c.loop-goal-test.false in omega (arith, count, past)) c.loop-goal.invariant

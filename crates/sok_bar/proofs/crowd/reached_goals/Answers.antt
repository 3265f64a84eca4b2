use Rattle.std.proofs.Common.{◌≡◌, ◌<◌, ◌+◌, sym, ◌∙◌, subst, true≢false, arith, length}
use Rattle.std.specs.List.Sorted.{IsStrictlyIncreasing}
use Rattle.sok_rules.specs.Squares.{holds, is_goal}
use Rattle.sok_board.specs.Area.{goals_of, spot_of}
use Rattle.sok_board.proofs.Numbering.{rising-chosen}
use Rattle.sok_bar.proofs.Counting.{Counts, Counts-missed, Counts-reached, HasReached-first, HasFirst-reached}
use Rattle.sok_bar.proofs.crowd.reached_goals.Goals as goal
use Rattle.sok_bar.proofs.crowd.reached_goals.Goals.{then-is_reached, else-is_reached, After-loop-goal}

pub loop-goal-preserved : goal.loop-goal-preserved
loop-goal-preserved c =
    let b = c.args.distances.now.board in
    let rising : IsStrictlyIncreasing (goals_of b) = rising-chosen (λ n. holds is_goal b.rows (spot_of b n)) (length b.area) in
    let exists : c.loop-goal.goal < length (goals_of b) = let all = c.goals-goal-end.ensures.count in let test = c.loop-goal-test.true in
    omega (arith, test, all) in
    let next = Counts c.args.distances.now.board c.args.boxes.now c.args.members.now (c.loop-goal.goal + 1) in
    elim c.if-is_reached.branch [
      | then-is_reached w ↦ subst next (sym w.reached-is)
          (Counts-reached c.args.distances.now.board c.args.boxes.now c.args.members.now c.loop-goal.goal c.loop-goal.reached rising exists c.loop-goal.invariant
          (c.is_reached.ensures.0 w.if-is_reached.true))
      | else-is_reached w ↦ subst next (sym w.reached-is)
          (Counts-missed c.args.distances.now.board c.args.boxes.now c.args.members.now c.loop-goal.goal c.loop-goal.reached c.loop-goal.invariant
          (λ reached. true≢false (sym (c.is_reached.ensures.1 reached) ∙ w.if-is_reached.false)))
    ]

all_goals : (c : After-loop-goal) → c.loop-goal.goal ≡ length (goals_of c.args.distances.now.board)
all_goals c =
    let past = c.loop-goal-test.false in
    let within = c.loop-goal.auto.goal-end in
    let all = c.goals-goal-end.ensures.count in
    omega (arith, past, within, all)

pub returns-clause-enough : goal.returns-clause-enough
returns-clause-enough c =
    let counts = subst (λ k. Counts c.args.distances.now.board c.args.boxes.now c.args.members.now k c.loop-goal.reached) (all_goals c) c.loop-goal.invariant in
    (counts.goals, HasReached-first c.args.distances.now.board c.args.boxes.now c.args.members.now counts.goals counts.enough, counts.many)

pub returns-clause-least : goal.returns-clause-least
returns-clause-least c = λ goals has.
    let counts = subst (λ k. Counts c.args.distances.now.board c.args.boxes.now c.args.members.now k c.loop-goal.reached) (all_goals c) c.loop-goal.invariant in
    counts.least goals (HasFirst-reached c.args.distances.now.board c.args.boxes.now c.args.members.now goals has)

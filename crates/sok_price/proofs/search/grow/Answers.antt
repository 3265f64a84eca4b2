use Rattle.sok_price.proofs.Words.{Growth, HasRoom, IsAhead, PathSearch, ap, arith, cost_of, length, subst, sym, ◌∙◌, length_push, joined}
use Rattle.sok_price.proofs.{CostRows.AreShort-costs, Joining.IsAhead-joined, Joining.IsJoining-next, Joining.fewer-branches, Joining.branch_of}
use Rattle.sok_price.proofs.search.grow.Goals as goal

pub join-requires-clause-room : goal.join-requires-clause-room
join-requires-clause-room c =
    let is = IsJoining-next c.index.result.now (AreShort-costs c.requires.costs) c.look_on.ensures.growing c.look_on.ensures.next c.in-Some.is c.index.ensures
    c.in-Some-index.is in
    let (_, _, _, room) = c.growing.invariant in
    let tree = (subst (HasRoom (length c.args.rows.now)) (sym c.look_on.ensures.same) (record { tree = room.tree; matching = room.matching })).tree in
    omega (arith, fewer-branches is, tree)

pub growing-smaller : goal.growing-smaller
unfolding joined
growing-smaller c =
    let is = IsJoining-next c.index.result.now (AreShort-costs c.requires.costs) c.look_on.ensures.growing c.look_on.ensures.next c.in-Some.is c.index.ensures
    c.in-Some-index.is in
    let more = ap (λ (h : Growth). length h.branches) c.join.ensures.joined ∙ length_push c.look_on.new.search.branches.items (branch_of c.in-Some.near
    c.in-Some-index.member) in
    omega (arith, fewer-branches is, more, ap (λ (s : PathSearch). length s.branches.items) c.look_on.ensures.same)

pub growing-preserved : goal.growing-preserved
unfolding joined
growing-preserved c =
    let rows = c.args.rows.now in
    let is = IsJoining-next c.index.result.now (AreShort-costs c.requires.costs) c.look_on.ensures.growing c.look_on.ensures.next c.in-Some.is c.index.ensures
    c.in-Some-index.is in
    let (_, goals, floor, room) = c.growing.invariant in (
      subst (IsAhead (cost_of c.args.costs.now rows) (length rows) c.args.costs.now.goals) (sym c.join.ensures.joined) (IsAhead-joined is),
      ap (λ (h : Growth). h.goal_of) c.join.ensures.joined ∙ ap (λ (s : PathSearch). s.goal_of.items) c.look_on.ensures.same ∙ goals,
      ap (λ (h : Growth). h.floor) c.join.ensures.joined ∙ ap (λ (s : PathSearch). s.floor) c.look_on.ensures.same ∙ floor,
      c.join.ensures.room (length rows) (subst (HasRoom (length rows)) (sym c.look_on.ensures.same) (record { tree = room.tree; matching = room.matching })),
    )

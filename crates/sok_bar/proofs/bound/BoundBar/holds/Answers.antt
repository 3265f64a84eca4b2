use Rattle.std.proofs.Common.{ℕ, ◌≡◌, sym, ap, ◌∙◌, subst, true, true≢false, arith, List, length, nat_le}
use Rattle.std.proofs.lemmas.Bool.{leb-true, le-leb}
use Rattle.sok_board.specs.Area.{BoardView, IsAccepted, goals_of}
use Rattle.sok_price.specs.Prices.{Priced}
use Rattle.sok_bar.specs.Bars.{Barring, Bars}
use Rattle.sok_bar.specs.Fair.{AreFair}
use Rattle.sok_bar.proofs.Prices.{few_goals, Priced-fair, AreFair-Priced}
use Rattle.sok_bar.proofs.ReasonLaws.{reasons-bar}
use Rattle.sok_bar.proofs.bound.BoundBar.holds.Goals as goal
use Rattle.sok_bar.proofs.bound.BoundBar.holds.Goals.{After-from}

pub returns-then-not-are_fair-clause-exact : goal.returns-then-not-are_fair-clause-exact
returns-then-not-are_fair-clause-exact c = (
  (λ e. absurd (true≢false (sym e))),
  λ bars.
      let b = c.args.setting.now.board.now in
      let u = c.args.self.now.u.now in
      let v = c.args.self.now.v.now in
      let priced : Priced b c.args.boxes.now u v c.in-AtLeast.pushes = subst (Bars b c.args.player c.args.boxes.now (Barring.bound u v)) c.in-AtLeast.is bars in
      let fair = AreFair-Priced b c.args.boxes.now u v c.in-AtLeast.pushes priced in
      let listed = subst (λ (bs : List ℕ). AreFair b bs u v) (sym c.list-boxes.ensures.list) fair in
      let told = subst (λ (other : BoardView). AreFair other c.list-boxes.result.now u v) (sym c.args.setting.now.own) listed in
      absurd (true≢false (sym (c.are_fair.ensures.1 told) ∙ c.if-not-are_fair.true)),
)

pub total-requires-2 : goal.total-requires-2
total-requires-2 c =
    let few = few_goals c.args.setting.now.distances.now.board c.goals.ensures.accepted in
    let same = c.if-self-goals.false in
    let count = c.goals.ensures.count in
    omega (arith, few, same, count)

a_price_a_goal : (c : After-from) → length c.args.self.now.v.now ≡ length (goals_of c.args.setting.now.board.now)
a_price_a_goal c =
    let same = c.if-self-goals.false in
    let goals : c.goals.result ≡ length (goals_of c.args.setting.now.board.now) = c.goals.ensures.count ∙ ap (λ (b : BoardView). length (goals_of b)) c.args.setting.now.own in
    omega (arith, same, goals)

a_price_a_box : (c : After-from) → length c.args.self.now.u.now ≡ length c.args.boxes.now
a_price_a_box c =
    let same = c.if-self-boxes.false in
    let listed : length c.list-boxes.result.now ≡ length c.args.boxes.now = ap length c.list-boxes.ensures.list in
    omega (arith, same, listed)

priced : (c : After-from) → nat_le c.from.result c.in-Some.left ≡ true
    → Bars c.args.setting.now.board.now c.args.player c.args.boxes.now (Barring.bound c.args.self.now.u.now c.args.self.now.v.now) c.args.rest
priced c leaves =
    let b = c.args.setting.now.board.now in
    let u = c.args.self.now.u.now in
    let v = c.args.self.now.v.now in
    let told = c.are_fair.ensures.0 c.if-not-are_fair.false in
    let listed = subst (λ (other : BoardView). AreFair other c.list-boxes.result.now u v) c.args.setting.now.own told in
    let fair = subst (λ (bs : List ℕ). AreFair b bs u v) c.list-boxes.ensures.list listed in
    let (within, left) = c.in-Some.ensures in
    let of_boxes = c.total.ensures in
    let of_goals = c.total-2.ensures in
    let asked = c.from.ensures in
    let least = leb-true c.from.result c.in-Some.left leaves in
    subst (Bars b c.args.player c.args.boxes.now (Barring.bound u v)) (sym c.in-AtLeast.is)
    (Priced-fair b c.args.boxes.now u v c.in-AtLeast.pushes (a_price_a_box c) (a_price_a_goal c) fair
    (omega (arith, within, left, of_boxes, of_goals, asked, least)))

pub returns-in-Some-clause-law : goal.returns-in-Some-clause-law
returns-in-Some-clause-law c = λ leaves.
    let accepted : IsAccepted c.args.setting.now.board.now = subst IsAccepted c.args.setting.now.own c.goals.ensures.accepted in
    reasons-bar c.args.setting.now.board.now accepted c.args.player c.args.boxes.now (Barring.bound c.args.self.now.u.now c.args.self.now.v.now) c.args.rest
    c.requires.placed (priced c leaves)

pub returns-in-Some-clause-exact : goal.returns-in-Some-clause-exact
returns-in-Some-clause-exact c = (
  priced c,
  λ bars.
      let is_priced : Priced c.args.setting.now.board.now c.args.boxes.now c.args.self.now.u.now c.args.self.now.v.now c.in-AtLeast.pushes =
      subst (Bars c.args.setting.now.board.now c.args.player c.args.boxes.now (Barring.bound c.args.self.now.u.now c.args.self.now.v.now)) c.in-AtLeast.is bars in
      let enough = is_priced.enough in
      let (within, left) = c.in-Some.ensures in
      let of_boxes = c.total.ensures in
      let of_goals = c.total-2.ensures in
      let asked = c.from.ensures in
      le-leb c.from.result c.in-Some.left (omega (arith, enough, within, left, of_boxes, of_goals, asked)),
)

use Rattle.std.proofs.Common.{ℕ, ◌≡◌, sym, subst, true, nat_lt, arith, List, length}
use Rattle.std.proofs.lemmas.Bool.{ltb-true, lt-ltb}
use Rattle.sok_board.specs.Area.{BoardView, IsAccepted}
use Rattle.sok_price.specs.Prices.{IsCrowd}
use Rattle.sok_bar.specs.Bars.{Barring}
use Rattle.sok_bar.specs.Reached.{HasReached}
use Rattle.sok_bar.proofs.ReasonLaws.{reasons-bar}
use Rattle.sok_bar.proofs.crowd.CrowdBar.holds.Goals as goal
use Rattle.sok_bar.proofs.crowd.CrowdBar.holds.Goals.{After-reached_goals}

crowd : (c : After-reached_goals) → nat_lt c.reached_goals.result (length c.args.self.now.members.now) ≡ true
    → IsCrowd c.args.setting.now.board.now c.args.boxes.now c.args.self.now.members.now
crowd c fewer =
    let members = c.args.self.now.members.now in
    let (goals, has, many) = c.reached_goals.ensures.enough in
    let less = ltb-true c.reached_goals.result (length members) fewer in
    subst (λ (bs : List ℕ). IsCrowd c.args.setting.now.board.now bs members) c.list-boxes.ensures.list (record {
      listed = c.are_members.ensures.0 c.if-not-are_members.false;
      goals = goals;
      all_reached = subst (λ (b : BoardView). HasReached b c.list-boxes.result.now members goals) c.args.setting.now.own has;
      fewer = omega (arith, less, many);
    })

pub returns-clause-exact : goal.returns-clause-exact
returns-clause-exact c = (
  crowd c,
  λ is_crowd.
      let members = c.args.self.now.members.now in
      let listed : IsCrowd c.args.setting.now.board.now c.list-boxes.result.now members =
      subst (λ (bs : List ℕ). IsCrowd c.args.setting.now.board.now bs members) (sym c.list-boxes.ensures.list) is_crowd in
      let has = subst (λ (b : BoardView). HasReached b c.list-boxes.result.now members listed.goals) (sym c.args.setting.now.own) listed.all_reached in
      let least = c.reached_goals.ensures.least listed.goals has in
      let fewer = listed.fewer in
      lt-ltb c.reached_goals.result (length members) (omega (arith, least, fewer)),
)

pub returns-clause-law : goal.returns-clause-law
returns-clause-law c = λ fewer.
    let accepted : IsAccepted c.args.setting.now.board.now = subst IsAccepted c.args.setting.now.own c.reached_goals.ensures.accepted in
    reasons-bar c.args.setting.now.board.now accepted c.args.player c.args.boxes.now (Barring.crowd c.args.self.now.members.now) c.args.rest
    c.requires.placed (crowd c fewer)

use Rattle.std.proofs.Common.{ℕ, ◌≡◌, sym, subst, true, List}
use Rattle.sok_bar.specs.Bars.{Barring}
use Rattle.sok_bar.specs.Jam.{AreHeld, IsJam}
use Rattle.sok_bar.proofs.ReasonLaws.{reasons-bar}
use Rattle.sok_bar.proofs.frozen.FrozenBar.holds.Goals as goal
use Rattle.sok_bar.proofs.frozen.FrozenBar.holds.Goals.{After-are_held}

jam : (c : After-are_held) → c.are_held.result ≡ true → IsJam c.args.setting.now.board.now c.args.boxes.now c.args.self.now.members.now
jam c held =
    subst (λ (bs : List ℕ). IsJam c.args.setting.now.board.now bs c.args.self.now.members.now) c.list-boxes.ensures.list (record {
      listed = c.are_members.ensures.0 c.if-not-are_members.false;
      held = c.are_held.ensures.0 held;
      off_goal = c.has_one_off_goal.ensures.0 c.if-not-has_one_off_goal.false;
    })

pub returns-clause-exact : goal.returns-clause-exact
returns-clause-exact c = (
  jam c,
  λ is_jam. c.are_held.ensures.1 (subst (λ (bs : List ℕ). AreHeld c.args.setting.now.board.now bs c.args.self.now.members.now) (sym c.list-boxes.ensures.list) is_jam.held),
)

pub returns-clause-law : goal.returns-clause-law
returns-clause-law c = λ held.
    reasons-bar c.args.setting.now.board.now c.squares.ensures.accepted c.args.player c.args.boxes.now (Barring.frozen c.args.self.now.members.now) c.args.rest
    c.requires.placed (jam c held)

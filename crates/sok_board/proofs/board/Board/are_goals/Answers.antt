use Rattle.std.proofs.Common.{ap, ◌∙◌, subst, length, IsTrue, ◌↔◌, arith}
use Rattle.sok_board.specs.Area.{AreGoals, BoardView}
use Rattle.sok_board.proofs.board.Board.are_goals.Goals as goal

pub all_goals-requires : goal.all_goals-requires
all_goals-requires c = λ k d within.
    let long = ap length c.deref.ensures.value ∙ ap (λ (b : BoardView). length b.area) c.self.view_is in
    let exists = c.requires k d within in
    omega (arith, long, exists)

pub returns-clause-goals : goal.returns-clause-goals
returns-clause-goals c =
    let squares = c.args.squares.now in
    let rows = c.self.inside.level in
    let is = ap (λ area. record { rows = rows; area = area }) c.deref.ensures.value ∙ c.self.view_is in
    subst (λ b. IsTrue c.all_goals.result ↔ AreGoals b squares) is c.all_goals.ensures

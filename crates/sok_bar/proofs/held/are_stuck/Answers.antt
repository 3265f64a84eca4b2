use Rattle.std.proofs.Common.{sym, ◌∙◌, subst, true≢false}
use Rattle.sok_board.specs.Area.{BoardView}
use Rattle.sok_distance.specs.Pushing.{IsStuck}
use Rattle.sok_bar.proofs.held.are_stuck.Goals as goal

pub returns-then-stuck : goal.returns-then-stuck
returns-then-stuck c = (
  (λ second. (
    subst (λ (b : BoardView). IsStuck b c.args.first) c.args.setting.now.own (c.stuck.ensures.0 c.if-stuck.true),
    subst (λ (b : BoardView). IsStuck b c.args.second) c.args.setting.now.own (c.stuck-then-stuck.ensures.0 second),
  )),
  λ both. c.stuck-then-stuck.ensures.1 (subst (λ (b : BoardView). IsStuck b c.args.second) (sym c.args.setting.now.own) both.1),
)

pub returns-else-stuck : goal.returns-else-stuck
returns-else-stuck c = (
  (λ first. absurd (true≢false (sym first ∙ c.if-stuck.false))),
  λ both. c.stuck.ensures.1 (subst (λ (b : BoardView). IsStuck b c.args.first) (sym c.args.setting.now.own) both.0),
)

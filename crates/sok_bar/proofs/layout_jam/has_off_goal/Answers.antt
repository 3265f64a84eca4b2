use Rattle.std.proofs.Common.{◌≡◌, sym, ◌∙◌, subst, true≢false, arith, get_or}
use Rattle.std.proofs.lemmas.List.{get_or_default}
use Rattle.sok_bar.specs.Jam.{IsGoalSquare}
use Rattle.sok_bar.specs.Settings.{IsDrawn}
use Rattle.sok_bar.proofs.layout_jam.has_off_goal.Goals as goal

pub returns : goal.returns
returns c = (
  (λ e. absurd (true≢false (sym e))),
  λ (s, (k, within, is), drawn, off).
      let past = c.loop-square-test.false in
      let at : get_or c.args.boxes.now k 0 ≡ s = get_or_default c.args.boxes.now k 0 s within ∙ is in
      absurd (off (subst (IsGoalSquare c.args.board.now) at
      (c.loop-square.invariant k (omega (arith, within, past)) (subst (IsDrawn c.args.board.now c.args.held.now) (sym at) drawn)))),
)

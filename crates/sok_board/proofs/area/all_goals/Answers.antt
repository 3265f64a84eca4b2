use Rattle.std.proofs.Common.{◌≡◌, ap, sym, ◌∙◌, inl, inr, refl, arith, get_or}
use Rattle.std.proofs.lemmas.Bool.{cases_lt}
use Rattle.sok_rules.specs.Squares.{holds, is_goal}
use Rattle.sok_board.specs.Area.{spot_of, BoardView}
use Rattle.sok_board.proofs.AreaLaws.{spot_of-at}
use Rattle.sok_board.proofs.area.all_goals.Goals as goal

pub loop-square-preserved : goal.loop-square-preserved
loop-square-preserved c = λ k within. elim (cases_lt k c.loop-square.square-index) [
  | inl below ↦ c.loop-square.invariant k below
  | inr past ↦
      let rows = c.args.level.now in
      let b : BoardView = record { rows = rows; area = c.args.area.now } in
      let squares = c.args.squares.now in
      let last : k ≡ c.loop-square.square-index = omega arith in
      let n = get_or squares c.loop-square.square-index 0 in
      let here = sym c.if-not-is_goal.false ∙ c.is_goal.ensures ∙ c.cell_or_wall.ensures is_goal refl in
      ap (λ j. holds is_goal rows (spot_of b (get_or squares j 0))) last ∙ ap (holds is_goal rows) (spot_of-at b n) ∙ sym here
]

pub returns : goal.returns
returns c = (λ _ k within. c.loop-square.invariant k (omega arith), λ _. refl)

use Rattle.std.proofs.Common.{refl, map, ◌↔◌, None, IsSome, ap, sym, ◌∙◌, subst, arith, length}
use Rattle.sok_rules.specs.Play.{start}
use Rattle.sok_rules.specs.Squares.{is_box, is_goal}
use Rattle.sok_board.specs.Area.{BoardView, InArea}
use Rattle.sok_board.specs.Neighbours.{neighbours_of}
use Rattle.sok_board.specs.Tables.{entry}
use Rattle.sok_board.proofs.Accepted.{HasPlaceIn-area, HasPlace-area, IsSome-number_of}
use Rattle.sok_board.proofs.AreaLaws.{InArea-man}
use Rattle.sok_board.proofs.survey.number.Goals as goal

pub numbers-requires-clause-within : goal.numbers-requires-clause-within
numbers-requires-clause-within c = HasPlaceIn-area c.args.level.now c.args.squares.now c.requires.proper c.requires.area

pub list_neighbours-requires : goal.list_neighbours-requires
list_neighbours-requires c = HasPlace-area c.args.level.now c.args.squares.now c.requires.proper c.requires.area

pub list_spans-requires-clause-within : goal.list_spans-requires-clause-within
list_spans-requires-clause-within c = HasPlace-area c.args.level.now c.args.squares.now c.requires.proper c.requires.area

pub first_stray-requires-clause-numbers : goal.first_stray-requires-clause-numbers
first_stray-requires-clause-numbers c =
    let b : BoardView = record { rows = c.args.level.now; area = c.args.squares.now } in
    λ s. subst (λ o. IsSome o ↔ InArea c.args.level.now s) (sym (ap (λ table. entry None table s) c.deref.ensures.value ∙ c.in_ok-numbers.ensures s))
    (IsSome-number_of b c.requires.area s)

pub unwrap-player-requires : goal.unwrap-player-requires
unwrap-player-requires c =
    let rows = c.args.level.now in
    let b : BoardView = record { rows = rows; area = c.args.squares.now } in
    let is = c.entry.ensures ∙ (λ i. entry None (c.deref-3.ensures.value i) (c.man.ensures i)) ∙ c.in_ok-numbers.ensures (start rows).man in
    subst IsSome (sym is) ((IsSome-number_of b c.requires.area (start rows).man).1 (InArea-man rows))

pub returns-clause-accepted : goal.returns-clause-accepted
returns-clause-accepted c =
    let rows = c.args.level.now in
    let b : BoardView = record { rows = rows; area = c.args.squares.now } in
    let is = c.entry.ensures ∙ (λ i. entry None (c.deref-3.ensures.value i) (c.man.ensures i)) ∙ c.in_ok-numbers.ensures (start rows).man in
    let boxes = c.in_ok-boxes.ensures is_box refl (λ cell answer told. told.1) in
    let goals = c.in_ok-goals.ensures is_goal refl (λ cell answer told. told.1) in
    let many_boxes = ap length boxes in
    let many_goals = ap length goals in
    record {
      accepted = record {
        proper = c.requires.proper;
        numbered = c.requires.area;
        enclosed = c.in_default.ensures;
        few_squares = omega arith;
        no_stray = c.in_default-first_stray.ensures;
        few_boxes = omega (arith, many_boxes);
        enough_goals = omega (arith, many_boxes, many_goals);
      };
      numbers = c.in_ok-numbers.ensures;
      trimmed = c.requires.trimmed;
      neighbours = c.in_ok-neighbours.ensures ∙ ap (λ table. map (neighbours_of table) c.args.squares.now) c.deref-2.ensures.value;
      spans = c.in_ok-spans.ensures b refl;
      goals = goals;
      player = sym c.unwrap-player.ensures ∙ is;
      boxes = boxes;
    }

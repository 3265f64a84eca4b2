use Rattle.std.proofs.Common.{Contains, inl, refl, subst, sym, ◌∙◌}
use Rattle.sok_board.specs.BoxSets.{put_in_order}
use Rattle.sok_board.proofs.Moves.{IsMoved-put}
use Rattle.sok_field.specs.Numbers.{Draws}
use Rattle.sok_region.specs.Layouts.{IsLaidOut}
use Rattle.sok_state.proofs.Stepped.{gone, moved-back}
use Rattle.sok_corral.proofs.Jamming.{NeverAfter-jammed}
use Rattle.sok_corral.proofs.Shutting.{drawn-no_box}
use Rattle.sok_corral.proofs.testing.is_jammed.Goals as goal
use Rattle.sok_corral.proofs.testing.is_jammed.Goals.{After-shift}

-- no box stands there
free_in : (c : After-shift) → Contains c.args.lone.now.boxes.items c.args.to → ⊥
free_in c =
    let b = c.args.setting.now.board.now in
    let boxes = c.args.lone.now.boxes.items in
    drawn-no_box b c.requires.accepted boxes c.boxed.result.now
    (subst (Draws b (Contains boxes)) (sym c.boxed.ensures) c.requires.laid.boxed) c.args.to c.requires.to (sym c.has.ensures ∙ c.if-has.false)

-- the boxes after the push are laid out
shifted_in : (c : After-shift) → IsLaidOut c.args.setting.now.board.now (put_in_order c.args.from c.args.to c.args.lone.now.boxes.items) c.shift.new.self
shifted_in c =
    let boxes = c.args.lone.now.boxes.items in
    c.shift.ensures boxes (put_in_order c.args.from c.args.to boxes) c.requires.laid c.requires.there (free_in c) (IsMoved-put c.args.from c.args.to boxes)

pub has_jam-jammed-requires-clause-laid : goal.has_jam-jammed-requires-clause-laid
has_jam-jammed-requires-clause-laid c =
    let at = (goal.at.has_jam-jammed-requires-clause-laid c).After-shift in
    (put_in_order c.args.from c.args.to c.args.lone.now.boxes.items, shifted_in at)

pub returns-clause-laid : goal.returns-clause-laid
returns-clause-laid c =
    let at = (goal.at.returns-clause-laid c).After-shift in
    let boxes = c.args.lone.now.boxes.items in
    let after = put_in_order c.args.from c.args.to boxes in
    let moved = IsMoved-put c.args.from c.args.to boxes in
    c.shift-2.ensures after boxes (shifted_in at) ((moved c.args.to).1 (inl refl)) (gone boxes after c.args.from c.args.to c.requires.there (free_in at) moved)
    (moved-back boxes after c.args.from c.args.to c.requires.there (free_in at) moved)

pub returns-clause-jammed : goal.returns-clause-jammed
returns-clause-jammed c = λ key is yes.
    let at = (goal.at.returns-clause-jammed c).After-shift in
    let boxes = c.args.lone.now.boxes.items in
    let after = put_in_order c.args.from c.args.to boxes in
    NeverAfter-jammed c.args.setting.now.board.now c.requires.accepted key c.args.lone.now is c.args.from c.args.to c.requires.there c.requires.to (free_in at)
    ((c.has_jam-jammed.ensures after (shifted_in at)).0 yes)

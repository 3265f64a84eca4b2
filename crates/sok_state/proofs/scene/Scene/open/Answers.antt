use Rattle.std.proofs.Common.{subst, sym, Contains}
use Rattle.sok_field.specs.Numbers.{Draws}
use Rattle.sok_region.specs.Layouts.{IsLaidOut}
use Rattle.sok_region.proofs.Regions.{drawn-same, through-exact}
use Rattle.sok_state.proofs.scene.Scene.open.Goals as goal
use Rattle.sok_state.proofs.scene.Scene.open.Goals.{In_ok-lay}

-- the boxes of the state are laid out
laid_in : (c : In_ok-lay) → IsLaidOut c.args.board.now c.args.key.now.boxes c.lay.new.self
laid_in c = subst (λ boxes. IsLaidOut c.args.board.now boxes c.lay.new.self) c.list.ensures.list c.in_ok-lay.ensures.laid

pub flood_from-requires-clause-start : goal.flood_from-requires-clause-start
flood_from-requires-clause-start c =
    let b = c.args.board.now in
    let key = c.args.key.now in
    let placed = c.requires.key.is.placed in
    let laid = laid_in ((goal.at.flood_from-requires-clause-start c).In_ok-lay) in
    let drawn = subst (Draws b (λ n. Contains key.boxes n → ⊥)) (sym c.free.ensures) laid.free in
    (through-exact b c.requires.accepted.numbered key.boxes c.free.result.now drawn key.least placed.player_exists).1 placed.free

pub returns-clause-opened : goal.returns-clause-opened
returns-clause-opened c =
    let b = c.args.board.now in
    let key = c.args.key.now in
    let accepted = c.requires.accepted in
    let laid = laid_in ((goal.at.returns-clause-opened c).In_ok-lay) in
    let drawn = subst (Draws b (λ n. Contains key.boxes n → ⊥)) (sym c.free.ensures) laid.free in
    record {
      laid = laid;
      reached = drawn-same b key.boxes key.least c.free.result.now c.flood_from.new.seen accepted.proper accepted.numbered c.requires.key.is.placed drawn
          c.flood_from.ensures;
    }

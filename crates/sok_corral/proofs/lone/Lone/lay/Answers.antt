use Rattle.std.proofs.Common.{◌≡◌, ◌∙◌, ap, arith, All, Contains, List, ◌<◌, filter, length, subst, sym, ℕ}
use Rattle.sok_field.specs.Numbers.{Draws}
use Rattle.sok_region.specs.Layouts.{IsLaidOut}
use Rattle.sok_region.specs.Regions.{IsPlaced}
use Rattle.sok_region.proofs.Regions.{drawn-same, through-exact}
use Rattle.sok_corral.specs.Fencing.{is_in}
use Rattle.sok_corral.proofs.Laying.{among-chosen, few-chosen, placed-chosen}
use Rattle.sok_corral.proofs.lone.Lone.lay.Goals as goal
use Rattle.sok_corral.proofs.lone.Lone.lay.Goals.{In_ok-choose, In_ok-lay}

chosen_in : (c : In_ok-choose) → c.choose.new.list.items ≡ filter (is_in c.args.board.now c.args.set.now) c.args.key.now.boxes
chosen_in c = c.in_ok-choose.ensures ∙ ap (filter (is_in c.args.board.now c.args.set.now)) c.list.ensures.list

placed_in : (c : In_ok-choose) → IsPlaced c.args.board.now c.choose.new.list.items c.args.key.now.least
placed_in c = subst (λ (boxes : List ℕ). IsPlaced c.args.board.now boxes c.args.key.now.least) (sym (chosen_in c))
    (placed-chosen c.args.board.now c.args.key.now.least c.args.key.now.boxes (is_in c.args.board.now c.args.set.now) c.requires.state.is.placed)

laid_in : (c : In_ok-lay) → IsLaidOut c.args.board.now c.choose.new.list.items c.lay.new.self
laid_in c = subst (λ (boxes : List ℕ). IsLaidOut c.args.board.now boxes c.lay.new.self) c.deref.ensures.value c.in_ok-lay.ensures.laid

pub lay-requires-clause-exist : goal.lay-requires-clause-exist
lay-requires-clause-exist c = subst (All (λ (n : ℕ). n < length c.args.board.now.area)) (sym c.deref.ensures.value)
    (placed_in ((goal.at.lay-requires-clause-exist c).In_ok-choose)).boxes_exist

pub flood_from-requires-clause-start : goal.flood_from-requires-clause-start
flood_from-requires-clause-start c =
    let b = c.args.board.now in
    let boxes = c.choose.new.list.items in
    let at = goal.at.flood_from-requires-clause-start c in
    let placed = placed_in (at.In_ok-choose) in
    let drawn = subst (Draws b (λ n. Contains boxes n → ⊥)) (sym c.free.ensures) (laid_in (at.In_ok-lay)).free in
    (through-exact b c.requires.accepted.numbered boxes c.free.result.now drawn c.args.key.now.least placed.player_exists).1 placed.free

pub returns-clause-laid : goal.returns-clause-laid
returns-clause-laid c = laid_in ((goal.at.returns-clause-laid c).In_ok-lay)

pub returns-clause-lone : goal.returns-clause-lone
returns-clause-lone c =
    let b = c.args.board.now in
    let boxes = c.choose.new.list.items in
    let at = goal.at.returns-clause-lone c in
    let placed = placed_in (at.In_ok-choose) in
    let laid = laid_in (at.In_ok-lay) in
    let drawn = subst (Draws b (λ n. Contains boxes n → ⊥)) (sym c.free.ensures) laid.free in
    record {
      state = c.requires.state;
      placed = placed;
      among = λ n there. among-chosen b c.args.key.now.least c.args.key.now.boxes (is_in b c.args.set.now) c.requires.state.is.placed n
          (subst (λ (chosen : List ℕ). Contains chosen n) (chosen_in (at.In_ok-choose)) there);
      few =
          let few = c.list.ensures.few in
          let is = ap length c.list.ensures.list in
          let chosen = ap length (chosen_in (at.In_ok-choose)) in
          let less = few-chosen (is_in b c.args.set.now) c.args.key.now.boxes in
          omega (arith, few, is, chosen, less);
      reached = drawn-same b boxes c.args.key.now.least c.free.result.now c.flood_from.new.seen c.requires.accepted.proper c.requires.accepted.numbered placed drawn
          c.flood_from.ensures;
    }

use Rattle.std.proofs.Common.{◌<◌, ◌+◌, ◌*◌, ap, subst, sym, Contains, arith, length, get_or}
use Rattle.std.proofs.lemmas.List.Elements.{Contains-get_or}
use Rattle.sok_field.specs.Numbers.{Draws}
use Rattle.sok_state.specs.Listing.{IsDrawn, Lists}
use Rattle.sok_state.proofs.Listed.{IsListing-more, Lists-next, listed_legal, listed_whole, listed_in_order}
use Rattle.sok_state.proofs.legal.list_pushes.Goals as goal

pub loop-from-preserved : goal.loop-from-preserved
loop-from-preserved c =
    let b = c.args.board.now in
    let key = c.args.key.now in
    let done = c.loop-from.from-index in
    let long = ap length c.list-boxes.ensures.list in
    let test = c.loop-from-test.true in
    let within : done < length key.boxes = omega (arith, long, test) in
    let before = c.loop-from.invariant in
    let drawn : IsDrawn b key c.free-free.result.now c.args.scene.now.reached = record {
      placed = c.requires.key.is.placed;
      left = subst (Draws b (λ n. Contains key.boxes n → ⊥)) (sym c.free-free.ensures) c.requires.opened.laid.free;
      reached = c.requires.opened.reached;
    } in
    let listed = subst (λ boxes. Contains key.boxes (get_or boxes done 0) → Lists b key (get_or boxes done 0 * 4) c.loop-from.pushes.items
    → Lists b key (get_or boxes done 0 * 4 + 4) c.list_box.new.pushes.items) c.list-boxes.ensures.list (c.list_box.ensures.listed key drawn) in
    record {
      listing = IsListing-more b key c.requires.key.is.placed done c.loop-from.pushes.items c.list_box.new.pushes.items within before.listing
          (listed (Contains-get_or key.boxes done 0 within) (Lists-next b c.requires.accepted.numbered key c.requires.key.is.placed done c.loop-from.pushes.items within before.listing));
      few = omega (arith, before.few, c.list_box.ensures.few);
      room = omega (arith, before.room, c.list_box.ensures.capacity);
    }

pub returns-clause-legal : goal.returns-clause-legal
returns-clause-legal c = listed_legal c.args.board.now c.args.key.now c.loop-from.from-index c.loop-from.pushes.items c.loop-from.invariant.listing

pub returns-clause-whole : goal.returns-clause-whole
returns-clause-whole c =
    let long = ap length c.list-boxes.ensures.list in
    let past = c.loop-from-test.false in
    listed_whole c.args.board.now c.requires.accepted.numbered c.args.key.now c.requires.key.is.placed c.loop-from.from-index c.loop-from.pushes.items
    (omega (arith, long, past)) c.loop-from.invariant.listing

pub returns-clause-in_order : goal.returns-clause-in_order
returns-clause-in_order c =
    listed_in_order c.args.board.now c.args.key.now c.loop-from.invariant.listing.bound c.loop-from.pushes.items c.loop-from.invariant.listing.lists

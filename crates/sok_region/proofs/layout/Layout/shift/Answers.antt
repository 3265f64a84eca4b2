use Rattle.std.proofs.Common.{arith, refl, sym, ap, ◌∙◌, subst}
use Rattle.std.specs.Vec.{with_items}
use Rattle.std.proofs.lemmas.List.{with_items_is}
use Rattle.sok_board.proofs.AreaLaws.{number_of-spot_of}
use Rattle.sok_region.specs.Layouts.{IsLaidOut, Laid, replaced}
use Rattle.sok_region.proofs.Laying.{IsLaidOut-shift}
use Rattle.sok_region.proofs.layout.Layout.shift.Goals as goal

pub returns : goal.returns
returns c = λ boxes after laid among clear moves.
    let b = c.args.board.now in
    let area = c.requires.accepted.numbered in
    let inside = c.self.inside in
    let old : Laid = record { area = inside.area; free = inside.free; boxed = inside.boxed; boxes = inside.boxes.items } in
    let boxes_after = (with_items inside.boxes c.replace.new.squares).items in
    let new : Laid = record { area = inside.area; free = c.take.new.field; boxed = c.put-2.new.field; boxes = boxes_after } in
    IsLaidOut-shift b boxes after c.args.from c.args.to old new c.put.new.field c.take-2.new.field
    (number_of-spot_of b area c.args.from c.requires.from) (number_of-spot_of b area c.args.to c.requires.to) c.requires.to
    (subst (IsLaidOut b boxes) (sym c.self.view_is) laid) among clear moves refl
    (with_items_is inside.boxes c.replace.new.squares (omega arith) ∙ c.replace.ensures ∙ ap (replaced c.args.from c.args.to) c.deref_mut.ensures.value)
    c.put.ensures c.take.ensures c.take-2.ensures c.put-2.ensures

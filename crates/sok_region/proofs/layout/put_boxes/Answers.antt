use Rattle.std.proofs.Common.{◌≡◌, ◌+◌, ◌++◌, ◌∷◌, [], sym, subst, get_or, take, Contains}
use Rattle.std.proofs.lemmas.List.{take_more, take_all}
use Rattle.sok_board.proofs.AreaLaws.{number_of-spot_of}
use Rattle.sok_field.specs.Numbers.{Draws}
use Rattle.sok_region.proofs.Laying.{Draws-boxed}
use Rattle.sok_region.proofs.layout.put_boxes.Goals as goal

pub loop-square-preserved : goal.loop-square-preserved
loop-square-preserved c =
    let b = c.args.board.now in
    let boxes = c.args.boxes.now in
    let at = c.loop-square.square-index in
    let k = get_or boxes at 0 in
    let more : take (at + 1) boxes ≡ take at boxes ++ k ∷ [] = take_more boxes at 0 c.loop-square-test.true in
    subst (λ some. Draws b (Contains some) c.put.new.field) (sym more)
    (Draws-boxed b c.loop-square.field c.put.new.field (take at boxes) k
    (number_of-spot_of b c.requires.accepted.numbered k (c.requires.exist at 0 c.loop-square-test.true)) c.put.ensures c.loop-square.invariant)

pub returns : goal.returns
returns c =
    let all = take_all c.loop-square.square-index c.args.boxes.now c.loop-square-test.false in
    subst (λ some. Draws c.args.board.now (Contains some) c.loop-square.field) all c.loop-square.invariant

use Rattle.std.proofs.Common.{◌≡◌, ◌∙◌, ◌↔◌, ◌+◌, ◌++◌, ◌∷◌, [], ap, sym, subst, true, get_or, take, Contains}
use Rattle.std.proofs.lemmas.List.{take_more, take_all}
use Rattle.sok_rules.specs.declared.cell.Spot.{Spot}
use Rattle.sok_board.specs.Area.{number_of}
use Rattle.sok_field.specs.Fields.{has}
use Rattle.sok_field.specs.Numbers.{Draws}
use Rattle.sok_field.proofs.Drawings.{Draws-taken, in_field}
use Rattle.sok_field.proofs.drawing.take_boxes.Goals as goal

pub take-requires : goal.take-requires
take-requires c =
    let k = get_or c.args.boxes.now c.loop-square.square-index in
    let (row, col) = in_field c.args.board.now c.requires.accepted (k 0) (c.requires.exist c.loop-square.square-index 0 c.loop-square-test.true) _
    c.spot.ensures.spot in
    record { row = row; col = col }

pub loop-square-preserved : goal.loop-square-preserved
loop-square-preserved c =
    let b = c.args.board.now in
    let old = c.loop-square.field in
    let new = c.take.new.self in
    let boxes = c.args.boxes.now in
    let at = c.loop-square.square-index in
    let k = get_or boxes at 0 in
    let spot = c.spot.ensures.spot in
    let taken = subst (λ p. (s : Spot) → (has new s ≡ true) ↔ ((s ≡ p → ⊥) × (has old s ≡ true))) spot c.take.ensures in
    let more : take (at + 1) boxes ≡ take at boxes ++ k ∷ [] = take_more boxes at 0 c.loop-square-test.true in
    subst (λ some. Draws b (λ n. Contains some n → ⊥) new) (sym more)
    (Draws-taken b old new (take at boxes) k (ap (number_of b) (sym spot) ∙ c.spot.ensures.inverse) taken c.loop-square.invariant)

pub returns : goal.returns
returns c =
    let all = take_all c.loop-square.square-index c.args.boxes.now c.loop-square-test.false in
    subst (λ some. Draws c.args.board.now (λ n. Contains some n → ⊥) c.loop-square.field) all c.loop-square.invariant

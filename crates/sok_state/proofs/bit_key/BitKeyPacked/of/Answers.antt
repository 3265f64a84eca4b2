use Rattle.std.proofs.Common.{◌≡◌, ◌+◌, ◌++◌, ◌∷◌, [], ◌∙◌, refl, sym, subst, replicate, get_or, take, length, ◌≤◌}
use Rattle.std.proofs.lemmas.List.{take_more, take_all}
use Rattle.sok_board.specs.Limits.{box_limit}
use Rattle.sok_field.specs.Numbers.{bit_of_number}
use Rattle.sok_field.proofs.OneSquare.{has-zeros}
use Rattle.sok_state.proofs.Packing.{IsPacked, IsPacked-none, IsPacked-more, squares_of-packed}
use Rattle.sok_state.specs.declared.key.Key.{Key}
use Rattle.sok_state.proofs.bit_key.BitKeyPacked.of.Goals as goal

pub loop-square-init : goal.loop-square-init
loop-square-init g c = IsPacked-none (replicate g.row.N 0) (λ n. has-zeros g.row.N (replicate g.row.N 0) refl (bit_of_number n))

pub loop-square-preserved : goal.loop-square-preserved
loop-square-preserved g c =
    let at = c.loop-square.square-index in
    let items = c.list-square-items.result.now in
    let x = get_or items at 0 in
    let more : take (at + 1) items ≡ take at items ++ x ∷ [] = take_more items at 0 c.loop-square-test.true in
    subst (IsPacked c.put.new.words) (sym more) (IsPacked-more c.loop-square.boxes c.put.new.words (take at items) x c.put.ensures c.loop-square.invariant)

pub returns-clause-state : goal.returns-clause-state
returns-clause-state g c =
    let all = take_all c.loop-square.square-index c.list-square-items.result.now c.loop-square-test.false ∙ c.list-square-items.ensures.list in
    let boxes = squares_of-packed c.loop-square.boxes c.args.key.now.boxes c.list-square-items.ensures.rising
    (subst (IsPacked c.loop-square.boxes) all c.loop-square.invariant) in
    λ i. record { boxes = boxes i; least = c.args.key.now.least }

pub returns-clause-few : goal.returns-clause-few
returns-clause-few g c = subst (λ (key : Key). length key.boxes ≤ box_limit) (sym (returns-clause-state g c)) c.list-square-items.ensures.few

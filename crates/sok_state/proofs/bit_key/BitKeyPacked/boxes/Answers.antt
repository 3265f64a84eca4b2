use Rattle.std.proofs.Common.{ℕ, ◌≡◌, ◌≤◌, ◌∙◌, ap, sym, subst, List, arith, length}
use Rattle.std.specs.List.Sorted.{IsStrictlyIncreasing}
use Rattle.std.proofs.lemmas.List.{length_push}
use Rattle.std.proofs.lemmas.Result.{IfOk-weaker}
use Rattle.sok_board.specs.Limits.{box_limit}
use Rattle.sok_field.specs.Numbers.{bit_of_number}
use Rattle.sok_field.proofs.OneSquare.{has-within}
use Rattle.sok_region.specs.Regions.{squares_of}
use Rattle.sok_region.proofs.Regions.{squares_of-rising}
use Rattle.sok_state.proofs.Unpacking.{IsUnpacked, IsUnpacked-more, IsUnpacked-fewer, IsUnpacked-all}
use Rattle.sok_state.proofs.bit_key.BitKeyPacked.boxes.Goals as goal
use Rattle.sok_state.proofs.bit_key.BitKeyPacked.boxes.Goals.{After-deref}

pub take-requires : goal.take-requires
take-requires g c =
    let word = has-within c.loop-square.left (bit_of_number c.in-Some.square) c.in-Some.ensures.among in
    omega (arith, word)

pub loop-square-preserved : goal.loop-square-preserved
loop-square-preserved g c =
    let words : List ℕ = c.args.self.now.boxes in
    let long : length c.take.new.words ≡ length c.loop-square.left = omega arith in
    subst (IsUnpacked words c.take.new.words) (sym {A = List ℕ} c.in_ok-push.ensures.items)
    (IsUnpacked-more words c.loop-square.left c.take.new.words c.loop-square.squares.items c.in-Some.square long c.in-Some.ensures c.take.ensures
    c.loop-square.invariant)

pub loop-square-smaller : goal.loop-square-smaller
loop-square-smaller g c =
    let fewer = IsUnpacked-fewer c.args.self.now.boxes c.loop-square.left c.loop-square.squares.items c.in-Some.square c.in-Some.ensures.among
    c.loop-square.invariant in
    let pushed = ap (λ (squares : List ℕ). length squares) c.in_ok-push.ensures.items in
    let longer = length_push c.loop-square.squares.items c.in-Some.square in
    omega (arith, fewer, pushed, longer)

-- all boxes are listed
whole : (g : _) (c : After-deref g) → c.deref.result.now ≡ squares_of c.args.self.now.boxes
whole g c = c.deref.ensures.value ∙ IsUnpacked-all c.args.self.now.boxes c.loop-square.left c.loop-square.squares.items c.loop-square.invariant c.in_default.ensures

pub of-requires-clause-rising : goal.of-requires-clause-rising
of-requires-clause-rising g c = subst IsStrictlyIncreasing (sym (whole g c)) (squares_of-rising c.args.self.now.boxes)

pub of-requires-clause-few : goal.of-requires-clause-few
of-requires-clause-few g c = subst (λ (squares : List ℕ). length squares ≤ box_limit) (sym (whole g c)) c.requires.few

pub returns : goal.returns
returns g c = IfOk-weaker c.of.result _ _ (λ _ is. is ∙ whole g ((goal.at.returns g c).After-deref)) c.of.ensures.list

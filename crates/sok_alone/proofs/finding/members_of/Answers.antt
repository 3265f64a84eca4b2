use Rattle.std.proofs.Common.{◌≡◌, ◌<◌, ◌++◌, ◌∷◌, ◌∙◌, [], All, ap, arith, get_or, length, subst, sym, take}
use Rattle.std.proofs.lemmas.List.{take_all, take_more}
use Rattle.std.proofs.lemmas.List.Elements.{All-push}
use Rattle.std.proofs.lemmas.Option.{slice_get_within}
use Rattle.sok_bar.specs.Patterns.{squares_at}
use Rattle.sok_bar.proofs.Patterns.{length-squares_at}
use Rattle.sok_alone.specs.Finding.{AreMembersAt}
use Rattle.sok_alone.proofs.Members.{members-at, members-more}
use Rattle.sok_alone.proofs.finding.members_of.Goals as goal

pub loop-square-preserved : goal.loop-square-preserved
loop-square-preserved c =
    let boxes = c.args.boxes.now in
    let squares = c.args.squares.now in
    let members = c.loop-square.members.items in
    let at = c.loop-square.square-index in
    let square = get_or squares at 0 in
    record {
      are = ap (squares_at boxes) c.in_ok-push.ensures.items ∙ members-more boxes members c.place_of.result square c.place_of.ensures
          ∙ ap (λ s. s ++ square ∷ []) c.loop-square.invariant.are ∙ sym (take_more squares at 0 c.loop-square-test.true);
      within = subst (All (λ k. k < length boxes)) (sym c.in_ok-push.ensures.items)
          (All-push (λ k. k < length boxes) members c.place_of.result c.loop-square.invariant.within
          (slice_get_within boxes c.place_of.result square c.place_of.ensures));
    }

pub returns : goal.returns
returns c =
    let boxes = c.args.boxes.now in
    let squares = c.args.squares.now in
    let members = c.loop-square.members.items in
    let at = c.loop-square.square-index in
    let past = c.loop-square-test.false in
    let all : take at squares ≡ squares = take_all at squares (omega (arith, past)) in
    let are : squares_at boxes members ≡ squares = c.loop-square.invariant.are ∙ all in
    let as_many : length members ≡ length squares = sym (length-squares_at boxes members) ∙ ap length are in
    subst (AreMembersAt boxes squares) (sym c.from.ensures)
    (members-at boxes squares members c.requires.rising c.requires.in_order as_many c.loop-square.invariant.within are)

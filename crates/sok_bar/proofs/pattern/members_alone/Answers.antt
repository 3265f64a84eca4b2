use Rattle.std.proofs.Common.{◌≡◌, ◌≤◌, ◌∙◌, ap, sym, subst, arith, length, List, ℕ}
use Rattle.std.specs.List.Sorted.{IsStrictlyIncreasing}
use Rattle.std.proofs.lemmas.List.{take_all}
use Rattle.sok_board.specs.Limits.{box_limit}
use Rattle.sok_price.specs.Prices.{AreMembers}
use Rattle.sok_bar.specs.Patterns.{squares_at}
use Rattle.sok_bar.proofs.Patterns.{length-squares_at, squares_at-rise}
use Rattle.sok_bar.proofs.Rising.{few-rising}
use Rattle.sok_bar.proofs.pattern.members_alone.Goals as goal

-- as many as there are boxes, or fewer
few : (boxes members : List ℕ) → length boxes ≤ box_limit → AreMembers boxes members → length (squares_at boxes members) ≤ box_limit
few boxes members short listed =
    let fewer = few-rising members (length boxes) listed.rising listed.within in
    let as_many = length-squares_at boxes members in
    omega (arith, fewer, as_many, short)

pub of-requires-clause-rising : goal.of-requires-clause-rising
of-requires-clause-rising c =
    let boxes = c.args.boxes.now in
    let members = c.args.members.now in
    let are : c.deref.result.now ≡ squares_at boxes members =
    c.deref.ensures.value ∙ c.loop-member.invariant ∙ ap (squares_at boxes) (take_all c.loop-member.member-index members c.loop-member-test.false) in
    subst IsStrictlyIncreasing (sym are) (squares_at-rise boxes members c.requires.rising c.requires.listed)

pub of-requires-clause-few : goal.of-requires-clause-few
of-requires-clause-few c =
    let boxes = c.args.boxes.now in
    let members = c.args.members.now in
    let are : c.deref.result.now ≡ squares_at boxes members =
    c.deref.ensures.value ∙ c.loop-member.invariant ∙ ap (squares_at boxes) (take_all c.loop-member.member-index members c.loop-member-test.false) in
    subst (λ squares. length squares ≤ box_limit) (sym are) (few boxes members c.requires.few c.requires.listed)

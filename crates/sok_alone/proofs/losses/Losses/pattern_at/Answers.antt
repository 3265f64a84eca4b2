use Rattle.std.proofs.Common.{ℕ, ◌≡◌, ◌≤◌, ◌∙◌, List, Some, All, Contains, ap, get_or, length, subst, sym}
use Rattle.std.proofs.lemmas.List.{get_or_default}
use Rattle.std.proofs.lemmas.Option.{same_Some, slice_get-get_or, slice_get_within}
use Rattle.sok_board.specs.Area.{BoardView}
use Rattle.sok_entry.specs.declared.entry.Inner.{Inner}
use Rattle.sok_entry.specs.Text.{FitsInner}
use Rattle.sok_bar.specs.Patterns.{AreClosedAlone}
use Rattle.sok_alone.specs.declared.losses.Loss.{Loss}
use Rattle.sok_alone.specs.Finding.{AreMembersAt}
use Rattle.sok_alone.specs.Losses.{IsLostBy, loss_limit, losses_of}
use Rattle.sok_alone.proofs.Members.{pattern-of}
use Rattle.sok_alone.proofs.losses.Losses.pattern_at.Goals as goal
use Rattle.sok_alone.proofs.losses.Losses.pattern_at.Goals.{After-index-loss}

-- the loss that is read is the one at the place
loss-is : (c : After-index-loss) (b : BoardView) (player : ℕ) (lost : IsLostBy b player c.args.boxes.now (losses_of c.args.self.now) c.args.place)
    → lost.loss ≡ c.index-loss.result.now
loss-is c b player lost =
    let losses = losses_of c.args.self.now in
    let loss = c.index-loss.result.now in
    same_Some lost.loss loss (sym lost.there
    ∙ slice_get-get_or losses c.args.place loss (slice_get_within losses c.args.place lost.loss lost.there) ∙ ap Some (sym c.index-loss.ensures))

pub members_of-requires-clause-among : goal.members_of-requires-clause-among
members_of-requires-clause-among c =
    let (b, player, lost) = c.requires.lost in
    let boxes = c.args.boxes.now in
    let squares = lost.loss.key.boxes in
    let are : c.list-2.result.now ≡ squares = c.list-2.ensures.list
    ∙ ap (λ (l : Loss). l.key.boxes) (sym (loss-is ((goal.at.members_of-requires-clause-among c).After-index-loss) b player lost)) in
    let among : All (Contains boxes) squares = λ k d within.
    lost.among (get_or squares k d) (k, within, get_or_default squares k (get_or squares k d) d within) in
    subst (λ (list : List ℕ). All (Contains list) c.list-2.result.now) (sym c.list.ensures.list) (subst (All (Contains boxes)) (sym are) among)

pub returns-clause-holds : goal.returns-clause-holds
returns-clause-holds c b player lost =
    let boxes = c.args.boxes.now in
    let squares = lost.loss.key.boxes in
    let is = loss-is ((goal.at.returns-clause-holds c).After-index-loss) b player lost in
    let are : c.list-2.result.now ≡ squares = c.list-2.ensures.list ∙ ap (λ (l : Loss). l.key.boxes) (sym is) in
    let inner_is : lost.loss.inner ≡ c.in_ok-inner.inner = ap (λ (l : Loss). l.inner) is ∙ sym c.in_ok-inner.ensures in
    let at : AreMembersAt boxes squares c.in_ok-members.members = subst (λ (list : List ℕ). AreMembersAt list squares c.in_ok-members.members) c.list.ensures.list
    (subst (λ (list : List ℕ). AreMembersAt c.list.result.now list c.in_ok-members.members) are c.in_ok-members.ensures) in
    pattern-of b player boxes squares c.in_ok-members.members c.in_ok-inner.inner at
    (subst (λ (inner : List Inner). AreClosedAlone b player squares inner) inner_is lost.closed)

pub returns-clause-fit : goal.returns-clause-fit
returns-clause-fit c =
    let (b, player, lost) = c.requires.lost in
    let is = loss-is ((goal.at.returns-clause-fit c).After-index-loss) b player lost in
    subst (λ (inner : List Inner). All FitsInner inner) (ap (λ (l : Loss). l.inner) is ∙ sym c.in_ok-inner.ensures) lost.fit

pub returns-clause-few : goal.returns-clause-few
returns-clause-few c =
    let (b, player, lost) = c.requires.lost in
    let is = loss-is ((goal.at.returns-clause-few c).After-index-loss) b player lost in
    subst (λ (inner : List Inner). length inner ≤ loss_limit) (ap (λ (l : Loss). l.inner) is ∙ sym c.in_ok-inner.ensures) lost.few

use Rattle.std.proofs.Common.{ℕ, ◌∙◌, [], ◌∷◌, List, All, Contains, IfNone, IfSome, subst, sym}
use Rattle.std.proofs.lemmas.List.Elements.{All-cons, All-nil}
use Rattle.sok_board.specs.Area.{position_of}
use Rattle.sok_bar.specs.Patterns.{AreClosedAlone}
use Rattle.sok_alone.specs.GivenUp.{IsGivenUp}
use Rattle.sok_alone.specs.Meeting.{AreClosedWithin}
use Rattle.sok_alone.proofs.Members.{members-as, pattern-of}
use Rattle.sok_alone.proofs.finding.find_pattern.Goals as goal

pub returns-in_default-clause-none : goal.returns-in_default-clause-none
returns-in_default-clause-none c =
    let b = c.args.setting.now.board.now in
    let limit = c.args.limit in
    subst (λ (pair : List ℕ). IsGivenUp b.rows (position_of b c.args.player pair) limit) c.in_ok-pair.ensures.list
    (subst (λ o. IfNone o (IsGivenUp b.rows (position_of b c.args.player c.in_ok-pair.pair) limit)) c.in_default.is c.in_ok-inner.ensures.none)

pub members_of-requires-clause-among : goal.members_of-requires-clause-among
members_of-requires-clause-among c =
    let boxes = c.args.boxes.now in
    let both : All (Contains boxes) (c.args.first ∷ c.args.second ∷ []) = All-cons (Contains boxes) c.args.first (c.args.second ∷ []) c.requires.first_box
    (All-cons (Contains boxes) c.args.second [] c.requires.second_box (All-nil (Contains boxes))) in
    subst (λ (list : List ℕ). All (Contains list) c.list-2.result.now) (sym c.list.ensures.list)
    (subst (All (Contains boxes)) (sym (c.list-2.ensures.list ∙ c.in_ok-pair.ensures.list)) both)

pub returns-clause-members : goal.returns-clause-members
returns-clause-members c = members-as c.args.boxes.now c.list.result.now c.list-2.result.now (c.args.first ∷ c.args.second ∷ []) c.in_ok-members.members
    c.list.ensures.list (c.list-2.ensures.list ∙ c.in_ok-pair.ensures.list) c.in_ok-members.ensures

pub returns-clause-holds : goal.returns-clause-holds
returns-clause-holds c =
    let b = c.args.setting.now.board.now in
    let player = c.args.player in
    let inner = c.in-Some.inner in
    let within : AreClosedWithin b player c.in_ok-pair.pair c.args.limit inner =
    subst (λ o. IfSome o (AreClosedWithin b player c.in_ok-pair.pair c.args.limit)) c.in-Some.is c.in_ok-inner.ensures.closed in
    pattern-of b player c.args.boxes.now (c.args.first ∷ c.args.second ∷ []) c.in_ok-members.members inner
    (members-as c.args.boxes.now c.list.result.now c.list-2.result.now (c.args.first ∷ c.args.second ∷ []) c.in_ok-members.members
    c.list.ensures.list (c.list-2.ensures.list ∙ c.in_ok-pair.ensures.list) c.in_ok-members.ensures)
    (subst (λ (pair : List ℕ). AreClosedAlone b player pair inner) c.in_ok-pair.ensures.list within.closed)

use Rattle.std.proofs.Common.{sym, subst, All, length, List, ℕ, ◌<◌, ◌∷◌, Option, IfSome, IfNone, Vec}
use Rattle.sok_board.specs.Area.{BoardView}
use Rattle.std.specs.declared.alloc.Global.{Global}
use Rattle.std.proofs.lemmas.Result.{IfOk-weaker}
use Rattle.sok_cert.specs.Text.{IsSmall}
use Rattle.sok_cert.specs.Reason.{Reason}
use Rattle.sok_bar.specs.Jam.{IsJam}
use Rattle.sok_search.specs.Finished.{IsStuckAt}
use Rattle.sok_search.proofs.Reasons.{crowd-again, lone-bars, lone-fits, members-fit, none-inside}
use Rattle.sok_search.proofs.barring.dead_reason.Goals as goal
use Rattle.sok_search.proofs.barring.dead_reason.Goals.{In-Some}

pub returns-in-Some-2-clause-fits : goal.returns-in-Some-2-clause-fits
returns-in-Some-2-clause-fits c =
    let boxes = c.args.boxes.now in
    let jam : IsJam c.args.setting.now.board.now boxes c.in-Some-2.members.items = subst
    (λ (found : Option (Vec ℕ Global)). IfSome found (λ members. IsJam c.args.setting.now.board.now boxes members.items)) c.in-Some-2.is c.in_ok-members.ensures.jam in
    let few = members-fit boxes c.in-Some-2.members.items c.list.ensures.few jam.listed in
    (tt, subst (λ (members : List ℕ). All IsSmall (length members ∷ members)) (sym c.from-members.ensures) few, none-inside)

pub returns-in-None-clause-bars : goal.returns-in-None-clause-bars
returns-in-None-clause-bars c =
    let b = c.args.setting.now.board.now in
    let boxes = c.args.boxes.now in
    let none : (members : List ℕ) → IsJam b boxes members → ⊥ = subst
    (λ (found : Option (Vec ℕ Global)). IfNone found ((members : List ℕ) → IsJam b boxes members → ⊥)) c.in-None.is c.in_ok-members.ensures.none in
    IfOk-weaker c.assigned_reason.result _ _ (λ (why : Reason) assigned. crowd-again b boxes none c.requires.dead why
    assigned) c.assigned_reason.ensures.assigned

pub stuck_place-requires : goal.stuck_place-requires
stuck_place-requires c =
    let exist = subst (λ (squares : List ℕ). All (λ square. square < length c.args.setting.now.board.now.area) squares) (sym c.list.ensures.list) c.requires.exist in
    subst (λ (b : BoardView). All (λ square. square < length b.area) c.list.result.now) (sym c.args.setting.now.own) exist

-- the place is that of a box on the board
stuck-at : (c : In-Some) → IsStuckAt c.args.setting.now.board.now c.args.boxes.now c.in-Some.place
stuck-at c =
    let told : IsStuckAt c.args.setting.now.distances.now.board c.list.result.now c.in-Some.place = subst
    (λ (found : Option ℕ). IfSome found (IsStuckAt c.args.setting.now.distances.now.board c.list.result.now)) c.in-Some.is c.stuck_place.ensures in
    subst (λ (b : BoardView). IsStuckAt b c.args.boxes.now c.in-Some.place) c.args.setting.now.own
    (subst (λ (squares : List ℕ). IsStuckAt c.args.setting.now.distances.now.board squares c.in-Some.place) c.list.ensures.list told)

pub returns-in-Some-clause-bars : goal.returns-in-Some-clause-bars
returns-in-Some-clause-bars c = IfOk-weaker c.stuck_reason.result _ _ (λ (why : Reason) is. lone-bars c.args.setting.now.board.now c.args.boxes.now c.in-Some.place
    (stuck-at ((goal.at.returns-in-Some-clause-bars c).In-Some)) why is) c.stuck_reason.ensures

pub returns-in-Some-clause-fits : goal.returns-in-Some-clause-fits
returns-in-Some-clause-fits c = IfOk-weaker c.stuck_reason.result _ _ (λ (why : Reason) is. lone-fits c.args.setting.now.board.now c.args.boxes.now c.in-Some.place
    (stuck-at ((goal.at.returns-in-Some-clause-fits c).In-Some)) why is c.list.ensures.few) c.stuck_reason.ensures

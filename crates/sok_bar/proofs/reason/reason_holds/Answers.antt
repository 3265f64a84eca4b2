use Rattle.std.proofs.Common.{ℕ, ◌∙◌, ◌↔◌, ap, sym, subst, List, Bool, Result, Ok, Err, IfOk, IsTrue, IsOkAnd, IsSomeAnd, OnErr}
use Rattle.sok_rules.specs.declared.fault.Memory.{Memory}
use Rattle.sok_board.specs.Area.{BoardView}
use Rattle.sok_bar.specs.declared.rest.Rest.{Rest}
use Rattle.sok_bar.specs.Bars.{Bars, barring}
use Rattle.sok_entry.specs.declared.entry.Reason.{Reason}
use Rattle.sok_entry.specs.declared.entry.Reason.TheVariants.{Bound, Crowd, Frozen, Pattern}
use Rattle.sok_entry.specs.Text.{is_pattern}
use Rattle.sok_bar.proofs.reason.reason_holds.Goals as goal

-- what is told of a reason that takes no memory
abbrev Tells : BoardView → ℕ → List ℕ → Rest → Result Bool Memory → Reason → Type 0
Tells b player boxes rest result reason = IsOkAnd result (λ holds. IsTrue holds ↔ IsSomeAnd (barring reason) (λ one. Bars b player boxes one rest))

-- and of one that may
abbrev MayTell : BoardView → ℕ → List ℕ → Rest → Result Bool Memory → Reason → Type 0
MayTell b player boxes rest result reason = IfOk result (λ holds. IsTrue holds ↔ IsSomeAnd (barring reason) (λ one. Bars b player boxes one rest))

told : (b : BoardView) (player : ℕ) (boxes : List ℕ) (rest : Rest) (result : Result Bool Memory) (reason : Reason) → Tells b player boxes rest result reason
    → MayTell b player boxes rest result reason
told b player boxes rest (Ok holds) reason tells = tells
told b player boxes rest (Err e) reason none = absurd none

ample : (b : BoardView) (player : ℕ) (boxes : List ℕ) (rest : Rest) (result : Result Bool Memory) (reason : Reason) → Tells b player boxes rest result reason
    → OnErr result (IsTrue (is_pattern reason))
ample b player boxes rest (Ok holds) reason tells = tt
ample b player boxes rest (Err e) reason none = absurd none

pub returns-in-Bound-clause-exact : goal.returns-in-Bound-clause-exact
returns-in-Bound-clause-exact c = told c.args.setting.now.board.now c.args.player c.args.boxes.now c.args.rest c.holds-in-Bound.result c.args.reason.now
    (subst (Tells c.args.setting.now.board.now c.args.player c.args.boxes.now c.args.rest c.holds-in-Bound.result) ((λ i. Bound (c.as_slice-u.ensures i) (c.as_slice-v.ensures i)) ∙ sym c.in-Bound.is)
    c.holds-in-Bound.ensures.exact)

pub returns-in-Bound-clause-refused : goal.returns-in-Bound-clause-refused
returns-in-Bound-clause-refused c = ample c.args.setting.now.board.now c.args.player c.args.boxes.now c.args.rest c.holds-in-Bound.result c.args.reason.now
    (subst (Tells c.args.setting.now.board.now c.args.player c.args.boxes.now c.args.rest c.holds-in-Bound.result) ((λ i. Bound (c.as_slice-u.ensures i) (c.as_slice-v.ensures i)) ∙ sym c.in-Bound.is)
    c.holds-in-Bound.ensures.exact)

pub returns-in-Crowd-clause-exact : goal.returns-in-Crowd-clause-exact
returns-in-Crowd-clause-exact c = told c.args.setting.now.board.now c.args.player c.args.boxes.now c.args.rest c.holds-in-Crowd.result c.args.reason.now
    (subst (Tells c.args.setting.now.board.now c.args.player c.args.boxes.now c.args.rest c.holds-in-Crowd.result) (ap Crowd c.as_slice-members.ensures ∙ sym c.in-Crowd.is)
    c.holds-in-Crowd.ensures.exact)

pub returns-in-Crowd-clause-refused : goal.returns-in-Crowd-clause-refused
returns-in-Crowd-clause-refused c = ample c.args.setting.now.board.now c.args.player c.args.boxes.now c.args.rest c.holds-in-Crowd.result c.args.reason.now
    (subst (Tells c.args.setting.now.board.now c.args.player c.args.boxes.now c.args.rest c.holds-in-Crowd.result) (ap Crowd c.as_slice-members.ensures ∙ sym c.in-Crowd.is)
    c.holds-in-Crowd.ensures.exact)

pub returns-in-Frozen-clause-exact : goal.returns-in-Frozen-clause-exact
returns-in-Frozen-clause-exact c = told c.args.setting.now.board.now c.args.player c.args.boxes.now c.args.rest c.holds-in-Frozen.result c.args.reason.now
    (subst (Tells c.args.setting.now.board.now c.args.player c.args.boxes.now c.args.rest c.holds-in-Frozen.result) (ap Frozen c.as_slice-members-in-Frozen.ensures ∙ sym c.in-Frozen.is)
    c.holds-in-Frozen.ensures.exact)

pub returns-in-Frozen-clause-refused : goal.returns-in-Frozen-clause-refused
returns-in-Frozen-clause-refused c = ample c.args.setting.now.board.now c.args.player c.args.boxes.now c.args.rest c.holds-in-Frozen.result c.args.reason.now
    (subst (Tells c.args.setting.now.board.now c.args.player c.args.boxes.now c.args.rest c.holds-in-Frozen.result) (ap Frozen c.as_slice-members-in-Frozen.ensures ∙ sym c.in-Frozen.is)
    c.holds-in-Frozen.ensures.exact)

pub returns-in-Pattern-clause-exact : goal.returns-in-Pattern-clause-exact
returns-in-Pattern-clause-exact c =
    subst (MayTell c.args.setting.now.board.now c.args.player c.args.boxes.now c.args.rest c.holds_by.result)
    (ap (λ members. Pattern members c.in-Pattern.inner) c.as_slice-members-in-Pattern.ensures ∙ sym c.in-Pattern.is) c.holds_by.ensures.exact

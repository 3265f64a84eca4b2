use Rattle.std.proofs.Common.{ℕ, ◌≡◌, sym, ◌∙◌, subst, true, true≢false, List, Option, Some, IfNone, IfSome, Vec, slice_get}
use Rattle.std.specs.declared.alloc.Global.{Global}
use Rattle.sok_price.specs.Prices.{IsMember}
use Rattle.sok_bar.specs.Jam.{HasJams, IsJam}
use Rattle.sok_bar.proofs.Removal.{IsHeld-all}
use Rattle.sok_bar.proofs.frozen.find_frozen.Goals as goal

pub returns-then-not-is_held-clause-none : goal.returns-then-not-is_held-clause-none
returns-then-not-is_held-clause-none c = λ jam is_jam (i, one, at).
    let boxes : List ℕ = c.list.result.now in
    let jammed : IsJam c.args.setting.now.board.now boxes jam = subst (λ (bs : List ℕ). IsJam c.args.setting.now.board.now bs jam) (sym c.list.ensures.list) is_jam in
    let member : IsMember boxes jam c.args.square = (i, one, subst (λ (bs : List ℕ). slice_get bs i ≡ Some c.args.square) (sym c.list.ensures.list) at) in
    let told : c.is_held.result ≡ true = c.is_held.ensures.1 (IsHeld-all c.args.setting.now.board.now boxes jam jammed c.args.square member) in
    true≢false (sym told ∙ c.if-not-is_held.true)

pub returns-in_default-clause-none : goal.returns-in_default-clause-none
returns-in_default-clause-none c = λ jam is_jam member.
    subst (λ (found : Option (Vec ℕ Global)). IfNone found ((members : List ℕ) → IsJam c.args.setting.now.board.now c.args.boxes.now members → ⊥)) c.in_default.is
    c.in_ok-members.ensures.none jam is_jam

pub returns-then-not-is_member-clause-none : goal.returns-then-not-is_member-clause-none
returns-then-not-is_member-clause-none c = λ jam is_jam (i, one, at).
    let boxes : List ℕ = c.args.boxes.now in
    let has : HasJams c.args.setting.now.board.now boxes c.in-Some.members.items =
    subst (λ (found : Option (Vec ℕ Global)). IfSome found (λ members. HasJams c.args.setting.now.board.now boxes members.items)) c.in-Some.is
    c.in_ok-members.ensures.most in
    let member : IsMember boxes c.in-Some.members.items c.args.square = (i, has.most jam is_jam i one, at) in
    let told : c.is_member.result ≡ true = c.is_member.ensures.1 (subst (λ (bs : List ℕ). IsMember bs c.deref.result.now c.args.square)
    (sym c.list-2.ensures.list) (subst (λ (ms : List ℕ). IsMember boxes ms c.args.square) (sym c.deref.ensures.value) member)) in
    true≢false (sym told ∙ c.if-not-is_member.true)

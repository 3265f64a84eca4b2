use Rattle.std.proofs.Common.{ℕ, ◌≡◌, ◌<◌, ◌∙◌, Contains, ap, length, subst, sym}
use Rattle.std.proofs.lemmas.List.Elements.{All-contains}
use Rattle.std.proofs.lemmas.Result.{IfOk-weaker}
use Rattle.sok_bar.specs.Jam.{AreHeld, HasJams}
use Rattle.sok_bar.specs.Narrowed.{drawn_members}
use Rattle.sok_bar.proofs.Narrowing.{AreHeld-left, HasJams-left, KeepsJams-drawn, each-held}
use Rattle.sok_bar.proofs.frozen.held_members.Goals as goal

pub passes-init : goal.passes-init
passes-init c =
    KeepsJams-drawn c.args.setting.now.board.now c.squares-squares.ensures.accepted.numbered c.args.boxes.now c.put_boxes.new.field
    (λ s. All-contains (λ n. n < length c.args.setting.now.board.now.area) c.args.boxes.now s c.requires.boxes.exist) c.put_boxes.ensures

pub returns-then-not-take_loose-clause-jams : goal.returns-then-not-take_loose-clause-jams
returns-then-not-take_loose-clause-jams c =
    let b = c.args.setting.now.board.now in
    let boxes = c.args.boxes.now in
    let held = c.passes.held in
    let same = (c.take_loose.ensures.none c.if-not-take_loose.true).0 in
    let exist : (s : ℕ) → Contains boxes s → s < length b.area = λ s. All-contains (λ n. n < length b.area) boxes s c.requires.boxes.exist in
    IfOk-weaker c.drawn_members.result (λ members. members.items ≡ drawn_members b boxes c.take_loose.new.held) (λ members. HasJams b boxes members.items)
    (λ members is. subst (HasJams b boxes) (sym (is ∙ ap (drawn_members b boxes) same)) (HasJams-left b boxes held exist c.passes.invariant))
    c.drawn_members.ensures

pub returns-then-not-take_loose-clause-held : goal.returns-then-not-take_loose-clause-held
returns-then-not-take_loose-clause-held c =
    let b = c.args.setting.now.board.now in
    let boxes = c.args.boxes.now in
    let held = c.passes.held in
    let (same, all) = c.take_loose.ensures.none c.if-not-take_loose.true in
    let exist : (s : ℕ) → Contains boxes s → s < length b.area = λ s. All-contains (λ n. n < length b.area) boxes s c.requires.boxes.exist in
    IfOk-weaker c.drawn_members.result (λ members. members.items ≡ drawn_members b boxes c.take_loose.new.held) (λ members. AreHeld b boxes members.items)
    (λ members is. subst (AreHeld b boxes) (sym (is ∙ ap (drawn_members b boxes) same))
    (AreHeld-left b boxes held exist c.passes.invariant (each-held b boxes boxes held c.passes.invariant (λ t one. one) all)))
    c.drawn_members.ensures

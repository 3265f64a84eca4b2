use Rattle.std.proofs.Common.{◌↔◌, refl}
use Rattle.std.proofs.lemmas.List.Elements.{All-contains}
use Rattle.sok_bar.specs.declared.memo.Kept.{Kept}
use Rattle.sok_bar.specs.Memos.{IsClosedKept}
use Rattle.sok_bar.specs.Patterns.{AreClosedAlone}
use Rattle.sok_bar.proofs.Memos.{closed-by-key}
use Rattle.sok_bar.proofs.memo.Memo.are_closed_alone.Goals as goal
use Rattle.sok_bar.proofs.memo.Memo.are_closed_alone.Goals.{After-has}

-- what is closed from the player is closed from the state that is kept
by-key : (c : After-has) → AreClosedAlone c.args.setting.now.board.now c.args.player c.args.boxes.now c.args.inner.now
    ↔ IsClosedKept c.args.setting.now.board.now (record { key = c.in_ok-key.key; inner = c.args.inner.now })
by-key c = closed-by-key c.args.setting.now.board.now c.requires.accepted c.args.player c.args.boxes.now c.args.inner.now c.in_ok-key.key c.requires.placed c.in_ok-key.ensures.key
    c.in_ok-key.ensures.boxes

pub returns-then-has-clause-exact : goal.returns-then-has-clause-exact
returns-then-has-clause-exact c =
    let list : Kept = record { key = c.in_ok-key.key; inner = c.args.inner.now } in
    let kept = All-contains (IsClosedKept c.args.setting.now.board.now) c.args.self.now.lists.items list c.requires.memo.each (c.has.ensures.0 c.if-has.true) in (
      λ _. (by-key (goal.at.returns-then-has-clause-exact c).After-has).1 kept,
      λ _. refl,
    )

pub returns-in_err-keep-clause-memo : goal.returns-in_err-keep-clause-memo
returns-in_err-keep-clause-memo c =
    let closed = c.in_ok-are_closed_alone.ensures.0 c.if-not-branch.false in
    c.keep.ensures c.args.setting.now.board.now ((by-key (goal.at.returns-in_err-keep-clause-memo c).After-has).0 closed) c.requires.memo

pub returns-clause-memo : goal.returns-clause-memo
returns-clause-memo c =
    let closed = c.in_ok-are_closed_alone.ensures.0 c.if-not-branch.false in
    c.keep.ensures c.args.setting.now.board.now ((by-key (goal.at.returns-clause-memo c).After-has).0 closed) c.requires.memo

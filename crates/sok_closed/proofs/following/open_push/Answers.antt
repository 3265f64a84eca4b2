use Rattle.std.proofs.Common.{All, List, ap, arith, length, subst, sym}
use Rattle.std.proofs.lemmas.List.Elements.{All-contains}
use Rattle.std.proofs.lemmas.Option.{slice_get_within}
use Rattle.sok_state.specs.declared.push.Push.{Push}
use Rattle.sok_state.specs.Pushes.{IsLegal}
use Rattle.sok_closed.specs.Lookup.{TellsFirst}
use Rattle.sok_closed.proofs.Followed.{TellsOpen-first, TellsOpen-none}
use Rattle.sok_closed.proofs.following.open_push.Goals as goal
use Rattle.sok_closed.proofs.following.open_push.Goals.{After-first_missing}

pub first_missing-requires-clause-legal : goal.first_missing-requires-clause-legal
first_missing-requires-clause-legal c =
    subst (λ (pushes : List Push). All (IsLegal c.args.board.now c.args.key.now) pushes) (sym c.deref.ensures.value) c.in_ok-open.ensures.legal

-- what is told of the first push that is missing, of the list of all pushes
first_in : (c : After-first_missing)
    → TellsFirst c.args.board.now c.args.table.now.entries c.args.key.now c.args.depth c.open.new.self.pushes.items c.first_missing.result
first_in c = subst (λ (pushes : List Push). TellsFirst c.args.board.now c.args.table.now.entries c.args.key.now c.args.depth pushes c.first_missing.result)
    c.deref.ensures.value c.first_missing.ensures.first

pub index-requires : goal.index-requires
index-requires c =
    let ((push, there, missing), earlier) = subst (TellsFirst c.args.board.now c.args.table.now.entries c.args.key.now c.args.depth c.open.new.self.pushes.items)
    c.in-Some.is (first_in ((goal.at.index-requires c).After-first_missing)) in
    let within = slice_get_within c.open.new.self.pushes.items c.in-Some.place push there in
    let long = c.deref.ensures.len in
    omega (arith, within, long, ap length c.deref.ensures.value)

pub returns-in-Some-clause-first : goal.returns-in-Some-clause-first
returns-in-Some-clause-first c =
    let b = c.args.board.now in
    TellsOpen-first b c.args.table.now.entries c.args.key.now c.args.depth c.open.new.self.pushes.items c.in-Some.place c.index.result.now
    (λ p. (
      λ there. All-contains (IsLegal b c.args.key.now) c.open.new.self.pushes.items p c.in_ok-open.ensures.legal there,
      c.in_ok-open.ensures.whole p,
    )) c.in_ok-open.ensures.in_order c.index.ensures
    (subst (TellsFirst b c.args.table.now.entries c.args.key.now c.args.depth c.open.new.self.pushes.items) c.in-Some.is
    (first_in ((goal.at.returns-in-Some-clause-first c).After-first_missing)))

pub returns-in-None-clause-first : goal.returns-in-None-clause-first
returns-in-None-clause-first c =
    let b = c.args.board.now in
    let key = c.args.key.now in
    TellsOpen-none b c.args.table.now.entries key c.args.depth c.open.new.self.pushes.items
    (λ p. (
      λ there. All-contains (IsLegal b key) c.open.new.self.pushes.items p c.in_ok-open.ensures.legal there,
      c.in_ok-open.ensures.whole p,
    ))
    (subst (TellsFirst b c.args.table.now.entries key c.args.depth c.open.new.self.pushes.items) c.in-None.is
    (first_in ((goal.at.returns-in-None-clause-first c).After-first_missing)))

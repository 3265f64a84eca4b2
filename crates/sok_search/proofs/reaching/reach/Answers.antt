use Rattle.std.proofs.Common.{◌+◌, arith, refl, subst}
use Rattle.sok_board.specs.Area.{BoardView}
use Rattle.sok_board.proofs.Beside.{beside-within}
use Rattle.sok_closed.proofs.Starting.{at-within}
use Rattle.sok_distance.specs.Pushing.{IsStuck}
use Rattle.sok_state.specs.Tables.{IsAt}
use Rattle.sok_state.proofs.Stepped.{ComesNext, next_of}
use Rattle.sok_search.specs.Steps.{Nears}
use Rattle.sok_search.specs.Views.{progress_of}
use Rattle.sok_search.proofs.Adding.{note-within}
use Rattle.sok_search.proofs.Entering as held
use Rattle.sok_search.proofs.LeavingOut.{leads-nowhere, nowhere-no_fewer}
use Rattle.sok_search.proofs.Pushing.{pushed-known}
use Rattle.sok_search.proofs.reaching.reach.Goals as goal
use Rattle.sok_search.proofs.reaching.reach.Goals.{After-step-least, In-Some}

pub square_ahead-to-requires-clause-legal : goal.square_ahead-to-requires-clause-legal
square_ahead-to-requires-clause-legal c =
    (c.args.visit.now.key.now, held.state c.args.setting.now.board.now c.args.visit.now c.args.search.now c.requires.state, c.requires.legal)

pub returns-then-stuck-clause-pushed : goal.returns-then-stuck-clause-pushed
returns-then-stuck-clause-pushed c =
    let b = c.args.setting.now.board.now in
    let v = c.args.visit.now in
    let to = c.square_ahead-to.result in
    let state = held.state b v c.args.search.now c.requires.state in
    let stuck = subst (λ (board : BoardView). IsStuck board to) c.args.setting.now.own (c.stuck.ensures.0 c.if-stuck.true) in
    held.left_out b v c.args.search.now c.requires.state c.args.push (record {
      part = c.if-not-search.true;
      no_fewer = nowhere-no_fewer b c.args.search.now.aim.upper v.key.now v.depth c.args.push
          (leads-nowhere b c.requires.state.running.accepted v.key.now state c.args.push c.requires.legal to c.square_ahead-to.ensures stuck);
    })

pub step-least-requires-clause-pushable : goal.step-least-requires-clause-pushable
step-least-requires-clause-pushable c = held.can c.args.setting.now.board.now c.args.visit.now c.args.search.now c.requires.state
    c.args.push_scratch.now.scene c.requires.loaded.opened c.args.push c.requires.legal

pub get_next-requires-clause-exists : goal.get_next-requires-clause-exists
get_next-requires-clause-exists c = held.within c.args.setting.now.board.now c.args.visit.now c.args.search.now c.requires.state

pub get_next-requires-clause-to : goal.get_next-requires-clause-to
get_next-requires-clause-to c =
    let exists = beside-within c.args.setting.now.board.now c.args.push.dir c.args.push.from c.square_ahead-to.result c.square_ahead-to.ensures in
    let wide = c.requires.state.running.search.wide in
    omega (arith, exists, wide)

pub origin_of-requires : goal.origin_of-requires
origin_of-requires c = held.small_index c.args.setting.now.board.now c.args.visit.now c.args.search.now c.requires.state

pub overflow_add-visit : goal.overflow_add-visit
overflow_add-visit c =
    let small = held.small_depth c.args.setting.now.board.now c.args.visit.now c.args.search.now c.requires.state in
    omega (arith, small)

-- the state that the push leads to
comes_in : (c : After-step-least) → ComesNext c.args.setting.now.board.now c.args.visit.now.key.now c.args.push c.square_ahead-to.result c.step-least.result
comes_in c = held.comes c.args.setting.now.board.now c.args.visit.now c.args.search.now c.requires.state c.args.push_scratch.now.scene c.requires.loaded.opened
    c.args.push c.requires.legal c.square_ahead-to.result c.step-least.result c.square_ahead-to.ensures c.step-least.ensures.next

-- it is known
there_in : (c : In-Some)
    → ComesNext c.args.setting.now.board.now c.args.visit.now.key.now c.args.push c.square_ahead-to.result c.step-least.result
    → IsAt c.args.search.now.table.entries (next_of c.args.visit.now.key.now c.args.push.from c.square_ahead-to.result c.step-least.result) c.in-Some.at
there_in c comes = c.in-Some.ensures.there c.args.visit.now.key.now
    (next_of c.args.visit.now.key.now c.args.push.from c.square_ahead-to.result c.step-least.result) c.requires.state.there comes.is

pub approach-requires-clause-exists : goal.approach-requires-clause-exists
approach-requires-clause-exists c =
    let at = goal.at.approach-requires-clause-exists c in
    at-within c.args.search.now.table.entries _ c.in-Some.at (there_in at.In-Some (comes_in at.After-step-least))

pub approach-requires-clause-small : goal.approach-requires-clause-small
approach-requires-clause-small c =
    let at = goal.at.approach-requires-clause-small c in
    let within = at-within c.args.search.now.table.entries _ c.in-Some.at (there_in at.In-Some (comes_in at.After-step-least)) in
    let few = c.requires.state.running.search.few in
    let small = c.requires.state.small in
    omega (arith, within, few, small)

pub approach-requires-clause-noted : goal.approach-requires-clause-noted
approach-requires-clause-noted c =
    let at = goal.at.approach-requires-clause-noted c in
    note-within c.args.setting.now.board.now c.args.visit.now.limit c.args.visit.now.index (progress_of c.args.search.now) c.requires.state.running.search
    c.in-Some.at _ (there_in at.In-Some (comes_in at.After-step-least))

pub returns-in-Some-clause-pushed : goal.returns-in-Some-clause-pushed
returns-in-Some-clause-pushed c =
    let v = c.args.visit.now in
    let p = progress_of c.args.search.now in
    let at = goal.at.returns-in-Some-clause-pushed c in
    let comes = comes_in at.After-step-least in
    let next = next_of v.key.now c.args.push.from c.square_ahead-to.result c.step-least.result in
    pushed-known c.args.setting.now.board.now v c.args.search.now c.requires.state c.args.push c.requires.legal next comes.came c.in-Some.at p.frame p.table refl
    (record { there = there_in at.In-Some comes; unchanged = refl }) (progress_of c.approach.new.search)
    (subst (λ origin. Nears p c.in-Some.at (v.depth + 1) origin (progress_of c.approach.new.search)) c.origin_of.ensures c.in_ok-approach.ensures)

pub arrive-requires-clause-step : goal.arrive-requires-clause-step
arrive-requires-clause-step c = record {
  legal = c.requires.legal;
  ahead = c.square_ahead-to.ensures;
  moved = held.moved c.args.setting.now.board.now c.args.visit.now c.args.search.now c.requires.state c.args.push_scratch.now.scene c.requires.loaded.opened
      c.args.push c.requires.legal c.square_ahead-to.result c.step-least.result c.square_ahead-to.ensures c.step-least.ensures.next;
  next = c.step-least.ensures.next;
}

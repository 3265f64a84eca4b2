use Rattle.std.proofs.Common.{◌≡◌, ◌<◌, ◌+◌, IfErr, OnOk, arith, length}
use Rattle.std.proofs.lemmas.Result.{err_from_is_err_and}
use Rattle.sqlite.specs.Held.{state}
use Rattle.sok_keep.proofs.Adding.{all_added, first_more, first_none, first_stopped, first_unsaid}
use Rattle.sok_store.specs.Calls.{Carries, Stops}
use Rattle.sok_store.proofs.Calls.{stops_same}
use Rattle.sok_keep.specs.Adds.{AddsCount}
use Rattle.sok_keep.specs.Adding.{AddsSome}
use Rattle.sok_keep.specs.Causes.{IsCausedFault}
use Rattle.sok_keep.proofs.Treating.{all_treats, memory_treats, next_treats, none_carried}
use Rattle.sok_keep.proofs.add.add_levels.Given as given
use Rattle.sok_keep.proofs.add.add_levels.Goals as goal
use Rattle.sok_keep.proofs.add.add_levels.Goals.{After-add_level}

pub loop-index-init : goal.loop-index-init
loop-index-init g c =
    let s = state g.S.Store c.args.book.now in
    let blocks = c.args.collection.now in
    (first_none s blocks c.args.lines.now.items c.requires, none_carried s blocks, stops_same s _)

-- how one level more treats the connection
next : (g : given.Over) (c : After-add_level g) → let old = state g.S.Store c.args.book.now in let new = state g.S.Store c.add_level.new.book in
    OnOk c.add_level.result (Carries old new (AddsCount c.args.collection.now (c.loop-index.index + 1))) × Stops old new (AddsSome c.args.collection.now)
    × IfErr c.add_level.result (IsCausedFault old new (AddsSome c.args.collection.now))
next g c =
    let here = c.loop-index in
    next_treats (state g.S.Store c.args.book.now) (state g.S.Store here.book) (state g.S.Store c.add_level.new.book) c.args.collection.now here.index
    here.lines.items (omega arith) here.invariant.2 c.add_level.result c.add_level.ensures.treats here.invariant.0 here.invariant.1

pub loop-index-preserved : goal.loop-index-preserved
loop-index-preserved g c =
    let here = c.loop-index in
    let blocks = c.args.collection.now in
    let within : here.index < length blocks = omega arith in
    let leaves = rw c.reserve.ensures.items at c.in_ok-add_level.ensures.leaves in
    let (carries, stops, caused) = next g (goal.at.loop-index-preserved g c).After-add_level in (
      first_more (state g.S.Store c.args.book.now) (state g.S.Store here.book) (state g.S.Store c.add_level.new.book) blocks here.index here.lines.items
          c.add_level.new.lines.items c.add_level.ensures.treats.stop.clean here.invariant.0 c.in_ok-add_level.field-0 within leaves,
      rw c.in_ok-add_level.was at carries,
      stops,
    )

pub returns-in_err-reserve-clause-leaves : goal.returns-in_err-reserve-clause-leaves
returns-in_err-reserve-clause-leaves g c =
    let p = err_from_is_err_and c.from_residual.result c.from_residual.ensures.1 in
    let here = c.loop-index in
    let old = state g.S.Store c.args.book.now in
    let mid = state g.S.Store here.book in
    let blocks = c.args.collection.now in
    rw (p.1, c.reserve.ensures.items) (first_unsaid old mid blocks here.index here.lines.items here.invariant.0 _ p.2)

pub returns-in_err-add_level-clause-leaves : goal.returns-in_err-add_level-clause-leaves
returns-in_err-add_level-clause-leaves g c =
    let p = err_from_is_err_and c.from_residual-in_err-add_level.result c.from_residual-in_err-add_level.ensures.1 in
    let here = c.loop-index in
    let old = state g.S.Store c.args.book.now in
    let mid = state g.S.Store here.book in
    let new = state g.S.Store c.add_level.new.book in
    let leaves = rw c.reserve.ensures.items at c.in_err-add_level.ensures.leaves in
    rw (p.1, p.2) (first_stopped old mid new c.args.collection.now here.index here.lines.items c.add_level.new.lines.items
    c.add_level.ensures.treats.stop.clean here.invariant.0 c.in_err-add_level.field-0.0 leaves)

pub returns-clause-leaves : goal.returns-clause-leaves
returns-clause-leaves g c =
    let here = c.loop-index in
    let blocks = c.args.collection.now in
    let end : here.index ≡ length blocks = omega arith in
    all_added (state g.S.Store c.args.book.now) (state g.S.Store here.book) blocks here.index here.lines.items here.invariant.0 tt end

pub returns-in_err-reserve-clause-treats : goal.returns-in_err-reserve-clause-treats
returns-in_err-reserve-clause-treats g c =
    let p = err_from_is_err_and c.from_residual.result c.from_residual.ensures.1 in
    let here = c.loop-index in
    rw p.1 (memory_treats (state g.S.Store c.args.book.now) (state g.S.Store here.book) _ _ p.2 here.invariant.2)

pub returns-in_err-add_level-clause-treats : goal.returns-in_err-add_level-clause-treats
returns-in_err-add_level-clause-treats g c =
    let p = err_from_is_err_and c.from_residual-in_err-add_level.result c.from_residual-in_err-add_level.ensures.1 in
    let (carries, stops, caused) = next g (goal.at.returns-in_err-add_level-clause-treats g c).After-add_level in
    rw (p.1, p.2) (record { done = tt; stop = stops; cause = rw c.in_err-add_level.was at caused })

pub returns-clause-treats : goal.returns-clause-treats
returns-clause-treats g c =
    let here = c.loop-index in
    all_treats (state g.S.Store c.args.book.now) (state g.S.Store here.book) c.args.collection.now here.index _ here.invariant.1 here.invariant.2

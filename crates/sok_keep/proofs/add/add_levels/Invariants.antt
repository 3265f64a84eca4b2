use Rattle.sqlite.specs.Held.{state}
use Rattle.sok_store.specs.Calls.{Carries, ChangesBook, Stops}
use Rattle.sok_keep.specs.Adds.{AddsCount, AddsFirst}
use Rattle.sok_keep.specs.Adding.{AddsSome}
use Rattle.sok_keep.proofs.add.add_levels.Given as goal

abbrev pub invariant-loop-index : goal.invariant-loop-index
invariant-loop-index g l =
    ChangesBook (state g.S.Store l.fn.book) (state g.S.Store l.book) (λ pages after. AddsFirst l.collection pages l.index l.lines.items after)
    × Carries (state g.S.Store l.fn.book) (state g.S.Store l.book) (AddsCount l.collection l.index)
    × Stops (state g.S.Store l.fn.book) (state g.S.Store l.book) (AddsSome l.collection)

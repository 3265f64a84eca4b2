use Rattle.std.proofs.Common.{subst}
use Rattle.std.proofs.lemmas.Result.{err_from_is_err_and}
use Rattle.sqlite.specs.Held.{state}
use Rattle.sok_text.specs.Collections.{blocks_of}
use Rattle.sok_store.specs.Calls.{ChangesBook}
use Rattle.sok_keep.specs.Adding.{AddsSome, EndsLevels}
use Rattle.sok_keep.specs.Causes.{Treats}
use Rattle.sok_store.proofs.Calls.{stops_same}
use Rattle.sok_keep.proofs.Treating.{memory_treats}
use Rattle.sok_keep.proofs.Adding.{first_none, first_unsaid}
use Rattle.sok_keep.proofs.add.add_all.Goals as goal

pub returns-in_err-collection-clause-leaves : goal.returns-in_err-collection-clause-leaves
returns-in_err-collection-clause-leaves g c =
    let p = err_from_is_err_and c.from_residual.result c.from_residual.ensures.1 in
    let s = state g.S.Store c.args.book.now in
    let blocks = blocks_of c.args.bytes.now in
    rw p.1 (first_unsaid s s blocks 0 c.args.lines.now.items (first_none s blocks c.args.lines.now.items c.requires) _ p.2)

pub returns-clause-leaves : goal.returns-clause-leaves
returns-clause-leaves g c =
    subst (λ blocks. ChangesBook (state g.S.Store c.args.book.now) (state g.S.Store c.add_levels.new.book)
    (λ pages after. EndsLevels blocks pages after c.add_levels.new.lines.items c.add_levels.result)) c.in_ok-collection.ensures c.add_levels.ensures.leaves

pub returns-in_err-collection-clause-treats : goal.returns-in_err-collection-clause-treats
returns-in_err-collection-clause-treats g c =
    let p = err_from_is_err_and c.from_residual.result c.from_residual.ensures.1 in
    let s = state g.S.Store c.args.book.now in
    rw p.1 (memory_treats s s _ _ p.2 (stops_same s _))

pub returns-clause-treats : goal.returns-clause-treats
returns-clause-treats g c =
    subst (λ blocks. Treats (state g.S.Store c.args.book.now) (state g.S.Store c.add_levels.new.book) (AddsSome blocks) c.add_levels.result)
    c.in_ok-collection.ensures c.add_levels.ensures.treats

use Rattle.std.proofs.Common.{Bor, List, ap, option_map, ℕ, ◌++◌, ◌≡◌}
use Rattle.sqlite.specs.Held.{state}
use Rattle.sok_store.proofs.Calls.{changes_turns}
use Rattle.sok_keep.specs.Adds.{id_line}
use Rattle.sok_keep.proofs.Adding.{level_added, level_ended}
use Rattle.sok_keep.proofs.Treating.{added_treats, refused_treats}
use Rattle.sok_keep.proofs.Ids.{fits, of_passed}
use Rattle.sok_keep.proofs.add.add_made.Goals as goal

pub returns-in-Ok-clause-leaves : goal.returns-in-Ok-clause-leaves
returns-in-Ok-clause-leaves g c =
    let old = state g.S.Store c.args.book.now in
    let new = state g.S.Store c.add.new.self in
    let title = option_map (λ (t : Bor (List ℕ)). t.now) c.args.title in
    let told = c.args.lines.now.items in
    let whole = c.push_id_line.new.lines.items in
    let inv = rw c.in-Ok.is at c.add.type_inv in
    let grown : whole ≡ told ++ id_line c.args.n c.in-Ok.id =
    of_passed (λ i. whole ≡ told ++ id_line c.args.n i) c.in-Ok.id (fits c.in-Ok.id inv.1.1.1.1.0.1) c.push_id_line.ensures in
    level_added old new c.args.n c.args.level.now title c.in-Ok.id told whole tt c.in-Ok.ensures.accepted (changes_turns _ _ _ c.in-Ok.ensures.added) grown

pub returns-in-Err-clause-leaves : goal.returns-in-Err-clause-leaves
returns-in-Err-clause-leaves g c =
    let title = option_map (λ (t : Bor (List ℕ)). t.now) c.args.title in
    let told = c.tell_refused in
    level_ended (state g.S.Store c.args.book.now) (state g.S.Store c.add.new.self) c.args.n c.args.level.now title c.in-Err.fault c.args.lines.now.items
    told.new.lines.items told.result told.ensures.line told.ensures.told told.ensures.same c.in-Err.ensures.refused

pub returns-in-Ok-clause-treats : goal.returns-in-Ok-clause-treats
returns-in-Ok-clause-treats g c =
    added_treats (state g.S.Store c.args.book.now) (state g.S.Store c.add.new.self) c.args.n c.args.level.now
    (option_map (λ (t : Bor (List ℕ)). t.now) c.args.title) c.add.ensures.stop c.in-Ok.id _ c.in-Ok.ensures.accepted c.in-Ok.ensures.added

pub returns-in-Err-clause-treats : goal.returns-in-Err-clause-treats
returns-in-Err-clause-treats g c =
    let told = c.tell_refused in
    refused_treats (state g.S.Store c.args.book.now) (state g.S.Store c.add.new.self) c.args.n c.args.level.now
    (option_map (λ (t : Bor (List ℕ)). t.now) c.args.title) c.add.ensures.stop c.args.lines.now.items told.new.lines.items c.in-Err.fault told.result
    told.ensures.line told.ensures.told c.in-Err.ensures.refused (λ cause is. ap (state g.S.Store) (c.in-Err.ensures.untouched cause is)) c.in-Err.ensures.cause

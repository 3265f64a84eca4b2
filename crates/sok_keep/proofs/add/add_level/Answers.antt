use Rattle.std.proofs.Common.{Bor, List, option_map, ℕ}
use Rattle.sqlite.specs.Held.{state}
use Rattle.sok_text.specs.Collections.{level_at}
use Rattle.sok_text.specs.Titles.{title_at}
use Rattle.sok_keep.proofs.Adding.{level_found, level_told}
use Rattle.sok_keep.proofs.Treating.{faulty_treats, found_treats}
use Rattle.sok_keep.proofs.add.add_level.Goals as goal

pub returns-in-Ok-clause-leaves : goal.returns-in-Ok-clause-leaves
returns-in-Ok-clause-leaves g c =
    let blocks = c.args.collection.now in
    level_found (state g.S.Store c.args.book.now) (state g.S.Store c.add_made.new.book) c.args.n c.in-Ok.level (level_at blocks c.args.n)
    (option_map (λ (t : Bor (List ℕ)). t.now) c.title-title.result) (title_at blocks c.args.n) c.args.lines.now.items c.add_made.new.lines.items
    c.add_made.result c.in-Ok.ensures.level c.title-title.ensures c.add_made.ensures.leaves

pub returns-in-Err-clause-leaves : goal.returns-in-Err-clause-leaves
returns-in-Err-clause-leaves g c =
    let blocks = c.args.collection.now in
    let told = c.tell_faulty in
    level_told (state g.S.Store c.args.book.now) c.args.n c.in-Err.fault (level_at blocks c.args.n) (title_at blocks c.args.n) c.args.lines.now.items
    told.new.lines.items told.result c.in-Err.ensures.level told.ensures.other told.ensures.line told.ensures.memory told.ensures.same

pub returns-in-Ok-clause-treats : goal.returns-in-Ok-clause-treats
returns-in-Ok-clause-treats g c =
    let blocks = c.args.collection.now in
    found_treats (state g.S.Store c.args.book.now) (state g.S.Store c.add_made.new.book) c.args.n c.in-Ok.level (level_at blocks c.args.n)
    (option_map (λ (t : Bor (List ℕ)). t.now) c.title-title.result) (title_at blocks c.args.n) c.add_made.result c.in-Ok.ensures.level
    c.title-title.ensures c.add_made.ensures.treats

pub returns-in-Err-clause-treats : goal.returns-in-Err-clause-treats
returns-in-Err-clause-treats g c =
    let blocks = c.args.collection.now in
    let told = c.tell_faulty in
    faulty_treats (state g.S.Store c.args.book.now) c.args.n c.in-Err.fault (level_at blocks c.args.n) (title_at blocks c.args.n) told.result
    c.in-Err.ensures.level told.ensures.other told.ensures.memory

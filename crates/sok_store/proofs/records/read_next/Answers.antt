use Rattle.std.proofs.Common.{◌≡◌, ◌+◌, arith, length}
use Rattle.std.specs.BTreeSet.{contains_text}
use Rattle.sok_store.proofs.NextRow.{Gives-added, Refuses-added, Refuses-unreadable}
use Rattle.sok_store.proofs.records.read_next.Goals as goal

pub returns-in-Ok-clause-read : goal.returns-in-Ok-clause-read
returns-in-Ok-clause-read c =
    let place : c.len.result + 1 ≡ length c.args.records.now.items + 1 = omega (arith, c.len.ensures, c.args.records.now.ok) in
    Gives-added c.args.records.now.items (contains_text c.args.texts.now) c.args.row.now (c.len.result + 1) place c.in-Ok.kept
    c.in-Ok.ensures.read c.add_record.result c.add_record.new.records.items (contains_text c.add_record.new.texts)
    c.add_record.ensures.room c.add_record.ensures.new c.add_record.ensures.records c.add_record.ensures.texts

pub returns-in-Ok-clause-broken : goal.returns-in-Ok-clause-broken
returns-in-Ok-clause-broken c =
    let place : c.len.result + 1 ≡ length c.args.records.now.items + 1 = omega (arith, c.len.ensures, c.args.records.now.ok) in
    Refuses-added c.args.records.now.items (contains_text c.args.texts.now) c.args.row.now (c.len.result + 1) place c.in-Ok.kept
    c.in-Ok.ensures.read c.add_record.result c.add_record.ensures.refused

pub returns-in-Err-clause-broken : goal.returns-in-Err-clause-broken
returns-in-Err-clause-broken c =
    let place : c.len.result + 1 ≡ length c.args.records.now.items + 1 = omega (arith, c.len.ensures, c.args.records.now.ok) in
    Refuses-unreadable c.args.records.now.items (contains_text c.args.texts.now) c.args.row.now (c.len.result + 1) place c.in-Err.fault
    c.in-Err.ensures.broken

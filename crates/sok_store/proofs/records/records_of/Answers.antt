use Rattle.std.proofs.Common.{◌<◌, arith, length}
use Rattle.std.proofs.lemmas.Grind.{common_steps}
use Rattle.std.specs.BTreeSet.{contains_text}
use Rattle.sok_store.proofs.NextRow.{IsFirstBad-seen, IsSeen-more, few-seen}
use Rattle.sok_store.proofs.records.records_of.Goals as goal

pub read_next-requires : goal.read_next-requires
read_next-requires c =
    few-seen c.args.rows.now c.loop-row.row-index c.loop-row.records.items (contains_text c.loop-row.texts) c.loop-row.invariant

pub loop-row-preserved : goal.loop-row-preserved
loop-row-preserved c =
    let l = c.loop-row in
    let within : l.row-index < length c.args.rows.now = omega arith in
    IsSeen-more c.args.rows.now l.row-index l.records.items (contains_text l.texts) l.invariant c.row-item.result within c.row-item.is
    c.read_next.new.records.items (contains_text c.read_next.new.texts) c.in-Ok.ensures.read

pub returns-in-Err-clause-broken : goal.returns-in-Err-clause-broken
returns-in-Err-clause-broken c =
    let l = c.loop-row in
    let within : l.row-index < length c.args.rows.now = omega arith in
    IsFirstBad-seen c.args.rows.now l.row-index l.records.items (contains_text l.texts) l.invariant c.row-item.result within c.row-item.is
    c.in-Err.fault c.in-Err.ensures.broken

pub returns-clause-read : goal.returns-clause-read
returns-clause-read c = grind (arith, common_steps)

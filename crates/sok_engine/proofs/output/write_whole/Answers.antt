use Rattle.std.proofs.Common.{◌++◌, ◌<◌, length, take, rules, arith}
use Rattle.std.proofs.KnownBytes.{Appends-trans}
use Rattle.sok_engine.proofs.Writes.{more_done, stops_at_error, stops_at_none}
use Rattle.sok_engine.proofs.output.write_whole.Goals as goal

pub rest-preserved : goal.rest-preserved
rest-preserved g c =
    let (done, split, written) = c.rest.invariant in
    let rest = c.rest.rest.now in
    let n = c.in-Ok.count in
    (done ++ take n rest, more_done _ done rest n split, Appends-trans _ _ _ _ _ written c.in-Ok.ensures.bytes)

pub returns-in-Err-clause-err : goal.returns-in-Err-clause-err
returns-in-Err-clause-err g c =
    let (done, split, written) = c.rest.invariant in
    let more : 0 < length c.rest.rest.now = search rules in
    stops_at_error _ _ _ _ done c.rest.rest.now split more written c.in-Err.ensures.bytes

pub returns-then-count-eq0-clause-err : goal.returns-then-count-eq0-clause-err
returns-then-count-eq0-clause-err g c =
    let (done, split, written) = c.rest.invariant in
    let more : 0 < length c.rest.rest.now = search rules in
    stops_at_none _ _ _ _ done c.rest.rest.now _ split more written c.in-Ok.ensures.bytes (omega arith)

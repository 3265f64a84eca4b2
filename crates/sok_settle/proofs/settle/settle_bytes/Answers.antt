use Rattle.std.proofs.Common.{◌∙◌, subst, sym, true≢false}
use Rattle.sqlite.specs.Held.{state}
use Rattle.sok_book.specs.Records.{AreRecordsOf}
use Rattle.sok_store.specs.Calls.{FindsBook}
use Rattle.sok_store.proofs.Calls.{stops_none}
use Rattle.sok_settle.proofs.Settling.{bad_turns, unlisted_caused, unlisted_turns, whole}
use Rattle.sok_settle.proofs.settle.settle_bytes.Goals as goal

pub returns-then-is_bad-clause-writes : goal.returns-then-is_bad-clause-writes
returns-then-is_bad-clause-writes g c =
    bad_turns (g.C.Certs.keeping c.args.certs.now) c.args.limit c.args.span (state g.S.Store c.args.book.now) (g.W.Write.contents c.args.out.now) (c.is_bad.ensures.0 c.if-is_bad.true)

pub returns-in-Ok : goal.returns-in-Ok
returns-in-Ok g c =
    let old = state g.S.Store c.args.book.now in
    let mid = state g.S.Store c.list.new.self in
    let found = subst (λ rs. FindsBook old mid (λ book. AreRecordsOf book rs)) (sym c.deref.ensures.value) c.in-Ok.ensures.listed in
    let (writes, ends_open, stop, cause) =
    whole (g.C.Certs.keeping c.args.certs.now) c.args.limit c.args.span c.deref.result.now old mid (state g.S.Store c.settle_all.new.book) c.list.ensures.stop found
    (g.W.Write.contents c.args.out.now) (g.W.Write.contents c.settle_all.new.out) c.settle_all.result
    c.settle_all.ensures in
    record {
      writes = writes;
      bad_limit = λ bad. absurd (true≢false (sym (c.is_bad.ensures.1 bad) ∙ c.if-is_bad.false));
      «open» = ends_open;
      stop = stop;
      cause = cause;
    }

pub returns-in-Err-clause-writes : goal.returns-in-Err-clause-writes
returns-in-Err-clause-writes g c =
    rw c.from.ensures (unlisted_turns (g.C.Certs.keeping c.args.certs.now) c.args.limit c.args.span (state g.S.Store c.args.book.now) (state g.S.Store c.list.new.self)
    (g.W.Write.contents c.args.out.now) c.in-Err.fault c.in-Err.ensures.refused)

pub returns-in-Err-clause-stop : goal.returns-in-Err-clause-stop
returns-in-Err-clause-stop g c = stops_none (state g.S.Store c.args.book.now) (state g.S.Store c.list.new.self) _ c.list.ensures.stop

pub returns-in-Err-clause-cause : goal.returns-in-Err-clause-cause
returns-in-Err-clause-cause g c =
    rw c.from.ensures (unlisted_caused (g.C.Certs.keeping c.args.certs.now) c.args.limit c.args.span (state g.S.Store c.args.book.now) (state g.S.Store c.list.new.self) c.in-Err.fault
    c.in-Err.ensures.cause)

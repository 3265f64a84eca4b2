use Rattle.std.proofs.Common.{Err, ◌∙◌, ap, sym, w64}
use Rattle.std.proofs.lemmas.Int.{to_z-of_z}
use Rattle.std.proofs.lemmas.Result.{err_from_is_err_and}
use Rattle.sqlite.specs.Held.{state}
use Rattle.sok_keep.specs.Proves.{ProvesBytes}
use Rattle.sok_keep.proofs.Ending.{caused_more, changes_open, input_database, unproved_caused, written_caused, written_open}
use Rattle.sok_keep.proofs.Proving.{proof_done, proof_failed, proof_refused, proof_unread, refused_status}
use Rattle.sok_store.proofs.Calls.{stops_less, stops_same}
use Rattle.sok_keep.proofs.prove.prove_bytes.Goals as goal

pub returns-in_err-bytes-clause-writes : goal.returns-in_err-bytes-clause-writes
returns-in_err-bytes-clause-writes g c =
    let p = err_from_is_err_and c.from_residual.result c.from_residual.ensures.1 in
    rw (p.1, p.2) (proof_unread (state g.S.Store c.args.book.now) c.args.id _ _ c.in_err-bytes.field-0.0 (λ is. c.in_err-bytes.ensures.much (ap Err is)))

pub returns-in-Ok-clause-writes : goal.returns-in-Ok-clause-writes
returns-in-Ok-clause-writes g c =
    let read = c.in_ok-bytes in
    proof_done (state g.S.Store c.args.book.now) (state g.S.Store c.prove.new.self) c.args.id read.bytes.items (g.C.Read.remaining c.args.cert_input.now)
    read.ensures.all read.ensures.within (g.W.Write.contents c.args.out.now) (g.W.Write.contents c.write_line.new.out) c.in-Ok.claim c.write_line.result
    (rw (to_z-of_z w64 c.args.id c.ranges.id, c.as_slice.ensures.value) at c.in-Ok.ensures.proved) (rw c.proved_line.ensures at c.write_line.ensures)

pub returns-in_err-answer-in-Err-clause-writes : goal.returns-in_err-answer-in-Err-clause-writes
returns-in_err-answer-in-Err-clause-writes g c =
    let p = err_from_is_err_and c.from_residual-in_err-answer-in-Err.result c.from_residual-in_err-answer-in-Err.ensures.1 in
    let read = c.in_ok-bytes in
    rw (p.1, p.2) (proof_failed (state g.S.Store c.args.book.now) (state g.S.Store c.prove.new.self) c.args.id read.bytes.items (g.C.Read.remaining c.args.cert_input.now)
    read.ensures.all read.ensures.within c.in-Err.fault (rw (to_z-of_z w64 c.args.id c.ranges.id, c.as_slice.ensures.value) at c.in-Err.ensures.refused)
    _ c.in_err-answer-in-Err.field-0.0 c.in_err-answer-in-Err.ensures.told)

pub returns-clause-writes : goal.returns-clause-writes
returns-clause-writes g c =
    let read = c.in_ok-bytes in
    proof_refused (state g.S.Store c.args.book.now) (state g.S.Store c.prove.new.self) c.args.id read.bytes.items (g.C.Read.remaining c.args.cert_input.now)
    read.ensures.all read.ensures.within c.in-Err.fault (rw (to_z-of_z w64 c.args.id c.ranges.id, c.as_slice.ensures.value) at c.in-Err.ensures.refused)
    (g.W.Write.contents c.args.out.now) (g.W.Write.contents c.write.new.out) c.in_ok-answer-in-Err.answer c.write.result
    c.in_ok-answer-in-Err.ensures.answer c.write.ensures

pub returns-clause-open : goal.returns-clause-open
returns-clause-open g c =
    written_open c.in_ok-answer-in-Err.answer (g.W.Write.contents c.args.out.now) (g.W.Write.contents c.write.new.out) c.write.result _ c.write.ensures
    (λ zero. absurd (refused_status c.in-Err.fault c.in_ok-answer-in-Err.answer c.in_ok-answer-in-Err.ensures.answer zero))

pub returns-in_err-bytes-clause-cause : goal.returns-in_err-bytes-clause-cause
returns-in_err-bytes-clause-cause g c =
    let p = err_from_is_err_and c.from_residual.result c.from_residual.ensures.1 in
    rw p.1 (λ told. absurd (input_database c.in_err-bytes.field-0.0 (sym p.2 ∙ told)))

pub returns-in-Ok-clause-cause : goal.returns-in-Ok-clause-cause
returns-in-Ok-clause-cause g c =
    written_caused (state g.S.Store c.args.book.now) (state g.S.Store c.prove.new.self) (ProvesBytes c.args.id (g.C.Read.remaining c.args.cert_input.now)) _
    (g.W.Write.contents c.args.out.now) (g.W.Write.contents c.write_line.new.out) c.write_line.result c.write_line.ensures

pub returns-clause-cause : goal.returns-clause-cause
returns-clause-cause g c =
    written_caused (state g.S.Store c.args.book.now) (state g.S.Store c.prove.new.self) (ProvesBytes c.args.id (g.C.Read.remaining c.args.cert_input.now)) _
    (g.W.Write.contents c.args.out.now) (g.W.Write.contents c.write.new.out) c.write.result c.write.ensures

pub returns-in_err-answer-in-Err-clause-cause : goal.returns-in_err-answer-in-Err-clause-cause
returns-in_err-answer-in-Err-clause-cause g c =
    let p = err_from_is_err_and c.from_residual-in_err-answer-in-Err.result c.from_residual-in_err-answer-in-Err.ensures.1 in
    let old = state g.S.Store c.args.book.now in
    let new = state g.S.Store c.prove.new.self in
    let makes = ProvesBytes c.args.id (g.C.Read.remaining c.args.cert_input.now) in
    let fault = c.in-Err.fault in
    rw (p.1, p.2) (unproved_caused old new makes fault c.in_err-answer-in-Err.field-0.0 c.in_err-answer-in-Err.ensures.told
    (caused_more old new makes _ (λ book after made. (c.in_ok-bytes.bytes.items, c.in_ok-bytes.ensures.all, made.0, made.1)) fault
    (rw (to_z-of_z w64 c.args.id c.ranges.id, c.as_slice.ensures.value) at c.in-Err.ensures.cause)))

pub returns-in-Ok-clause-open : goal.returns-in-Ok-clause-open
returns-in-Ok-clause-open g c =
    let changes = rw (to_z-of_z w64 c.args.id c.ranges.id) at c.in-Ok.ensures.proved in
    written_open _ (g.W.Write.contents c.args.out.now) (g.W.Write.contents c.write_line.new.out) c.write_line.result _ c.write_line.ensures
    (λ zero. changes_open (state g.S.Store c.args.book.now) (state g.S.Store c.prove.new.self) _ changes)

pub returns-in_err-bytes-clause-stop : goal.returns-in_err-bytes-clause-stop
returns-in_err-bytes-clause-stop g c = stops_same (state g.S.Store c.args.book.now) _

pub returns-in-Ok-clause-stop : goal.returns-in-Ok-clause-stop
returns-in-Ok-clause-stop g c =
    stops_less (state g.S.Store c.args.book.now) (state g.S.Store c.prove.new.self) _ (ProvesBytes c.args.id (g.C.Read.remaining c.args.cert_input.now))
    (λ book after made. (c.in_ok-bytes.bytes.items, c.in_ok-bytes.ensures.all, made.0, made.1))
    (rw (to_z-of_z w64 c.args.id c.ranges.id, c.as_slice.ensures.value) at c.prove.ensures.stop)

pub returns-in_err-answer-in-Err-clause-stop : goal.returns-in_err-answer-in-Err-clause-stop
returns-in_err-answer-in-Err-clause-stop g c =
    stops_less (state g.S.Store c.args.book.now) (state g.S.Store c.prove.new.self) _ (ProvesBytes c.args.id (g.C.Read.remaining c.args.cert_input.now))
    (λ book after made. (c.in_ok-bytes.bytes.items, c.in_ok-bytes.ensures.all, made.0, made.1))
    (rw (to_z-of_z w64 c.args.id c.ranges.id, c.as_slice.ensures.value) at c.prove.ensures.stop)

pub returns-clause-stop : goal.returns-clause-stop
returns-clause-stop g c =
    stops_less (state g.S.Store c.args.book.now) (state g.S.Store c.prove.new.self) _ (ProvesBytes c.args.id (g.C.Read.remaining c.args.cert_input.now))
    (λ book after made. (c.in_ok-bytes.bytes.items, c.in_ok-bytes.ensures.all, made.0, made.1))
    (rw (to_z-of_z w64 c.args.id c.ranges.id, c.as_slice.ensures.value) at c.prove.ensures.stop)

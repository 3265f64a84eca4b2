use Rattle.std.proofs.Common.{◌≡◌, ◌<◌, Ok, Some, arith, length, refl, slice_get}
use Rattle.std.proofs.lemmas.Option.{slice_get_read}
use Rattle.std.proofs.lemmas.Result.{err_from_is_err_and}
use Rattle.sqlite.specs.Held.{state}
use Rattle.sok_store.proofs.Calls.{stops_same}
use Rattle.sok_settle.proofs.Settling.{gone_all, gone_ended, gone_more, gone_none, next_stops}
use Rattle.sok_settle.proofs.settle.settle_all.Goals as goal

pub loop-kept-init : goal.loop-kept-init
loop-kept-init g c =
    let s = state g.S.Store c.args.book.now in
    (gone_none (g.C.Certs.keeping c.args.certs.now) c.args.limit _ c.args.records.now s (g.W.Write.contents c.args.out.now), stops_same s _)

pub returns-in_err-settled : goal.returns-in_err-settled
returns-in_err-settled g c =
    let p = err_from_is_err_and c.from_residual.result c.from_residual.ensures.1 in
    let here = c.loop-kept in
    let records = c.args.records.now in
    let within : here.kept-index < length records = omega arith in
    let at : slice_get records here.kept-index ≡ Some c.kept-item.result = slice_get_read records (length records) here.kept-index c.kept-item.result refl within c.kept-item.is in
    rw (p.1, p.2) (gone_ended (g.C.Certs.keeping c.args.certs.now) c.args.limit _ records (state g.S.Store c.args.book.now) (state g.S.Store here.book)
    (state g.S.Store c.settle_kept.new.book) here.kept-index here.all c.kept-item.result at (g.W.Write.contents c.args.out.now) (g.W.Write.contents here.out)
    (g.W.Write.contents c.settle_kept.new.out) here.invariant.0 here.invariant.1 c.in_err-settled.field-0.0 c.in_err-settled.ensures)

pub loop-kept-preserved : goal.loop-kept-preserved
loop-kept-preserved g c =
    let here = c.loop-kept in
    let records = c.args.records.now in
    let within : here.kept-index < length records = omega arith in
    let at : slice_get records here.kept-index ≡ Some c.kept-item.result = slice_get_read records (length records) here.kept-index c.kept-item.result refl within c.kept-item.is in (
      gone_more (g.C.Certs.keeping c.args.certs.now) c.args.limit _ records (state g.S.Store c.args.book.now) (state g.S.Store here.book) (state g.S.Store c.settle_kept.new.book) here.kept-index
          here.all c.kept-item.result at (g.W.Write.contents c.args.out.now) (g.W.Write.contents here.out) (g.W.Write.contents c.settle_kept.new.out)
          here.invariant.0 here.invariant.1 c.in_ok-settled.settled c.in_ok-settled.ensures,
      next_stops (g.C.Certs.keeping c.args.certs.now) c.args.limit _ records (state g.S.Store c.args.book.now) (state g.S.Store here.book) (state g.S.Store c.settle_kept.new.book) here.kept-index
          here.all c.kept-item.result at (g.W.Write.contents c.args.out.now) (g.W.Write.contents here.out) (g.W.Write.contents c.settle_kept.new.out)
          here.invariant.0 here.invariant.1 (Ok c.in_ok-settled.settled) c.in_ok-settled.ensures,
    )

pub returns : goal.returns
returns g c =
    let here = c.loop-kept in
    let records = c.args.records.now in
    let end : here.kept-index ≡ length records = omega arith in
    gone_all (g.C.Certs.keeping c.args.certs.now) c.args.limit _ records (state g.S.Store c.args.book.now) (state g.S.Store here.book) here.kept-index
    here.all c.settle_status.result (g.W.Write.contents c.args.out.now) (g.W.Write.contents here.out) end c.settle_status.ensures here.invariant.0 here.invariant.1

use Rattle.std.proofs.Common.{Err, ap}
use Rattle.std.proofs.lemmas.Result.{err_from_is_err_and}
use Rattle.sqlite.specs.Held.{state}
use Rattle.sok_keep.proofs.Ending.{unread_takes}
use Rattle.sok_settle.proofs.Lines.{read_takes, unread_turns}
use Rattle.sok_settle.proofs.offers.offers_bytes.Goals as goal

pub offer_lines-requires : goal.offer_lines-requires
offer_lines-requires g c = rw c.as_slice.ensures.value c.in_ok-bytes.ensures.within

pub returns-in_err-bytes : goal.returns-in_err-bytes
returns-in_err-bytes g c =
    let p = err_from_is_err_and c.from_residual.result c.from_residual.ensures.1 in
    rw (p.1, p.2) (unread_takes _ _ _ c.in_err-bytes.field-0.0 (unread_turns (state g.S.Store c.args.book.now) _ _ c.in_err-bytes.field-0.0
    (λ is. c.in_err-bytes.ensures.much (ap Err is))))

pub returns : goal.returns
returns g c =
    read_takes c.as_slice.result.now (g.R.Read.remaining c.args.input.now) (rw c.as_slice.ensures.value c.in_ok-bytes.ensures.all)
    (state g.S.Store c.args.book.now) (state g.S.Store c.offer_lines.new.book) (g.W.Write.contents c.args.out.now) (g.W.Write.contents c.offer_lines.new.out)
    c.offer_lines.result c.offer_lines.ensures

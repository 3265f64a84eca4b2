use Rattle.std.proofs.Common.{IfErr}
use Rattle.sqlite.specs.Held.{state}
use Rattle.sok_store.specs.Calls.{ChangesBook, Stops}
use Rattle.sok_keep.specs.Causes.{IsCausedFault}
use Rattle.sok_keep.specs.Proves.{ProvesBytes, WritesProof}
use Rattle.sok_keep.proofs.Ids.{of_passed}
use Rattle.sok_tool.proofs.Working.{without_book, works_with_file}
use Rattle.sok_tool.proofs.keeping.prove.Goals as goal

pub returns-in_err-book : goal.returns-in_err-book
returns-in_err-book g c = without_book _ _ _ _ _ _ _ c.from_residual.ensures.1 c.in_err-book.ensures.refused

pub returns : goal.returns
returns g c =
    let call = c.prove_bytes-ended in
    let known = g.F.Input.Read.remaining c.in_ok-book.cert_input in
    let before = g.W.Write.contents c.args.out.now in
    let later = g.W.Write.contents call.new.out in
    let proves = of_passed (λ id. ChangesBook (state g.S.Store c.in_ok-book.book) (state g.S.Store call.new.book)
    (λ book after. WritesProof book id known after before later call.result)) c.args.id c.ranges.id call.ensures.writes in
    let stop = of_passed (λ id. Stops (state g.S.Store c.in_ok-book.book) (state g.S.Store call.new.book) (ProvesBytes id known)) c.args.id c.ranges.id call.ensures.stop in
    let cause = of_passed (λ id. IfErr call.result (IsCausedFault (state g.S.Store c.in_ok-book.book) (state g.S.Store call.new.book) (ProvesBytes id known)))
    c.args.id c.ranges.id call.ensures.cause in
    works_with_file _ _ _ known c.in_ok-book.ensures.reads (ProvesBytes c.args.id)
    (λ known ended book after. WritesProof book c.args.id known after before later ended) _ _ _ c.told_by-told.ensures c.in_ok-book.book call.new.book _ c.in_ok-book.ensures.opens
    c.into_connection.ensures c.close.ensures proves stop cause

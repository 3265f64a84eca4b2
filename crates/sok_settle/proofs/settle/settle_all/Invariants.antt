use Rattle.sqlite.specs.Held.{state}
use Rattle.sok_settle.proofs.Settling.{Gone, MayGo}
use Rattle.sok_settle.proofs.settle.settle_all.Given as goal

abbrev pub invariant-loop-kept : goal.invariant-loop-kept
invariant-loop-kept g l =
    Gone (g.C.Certs.keeping l.certs) l.limit l.span l.records (state g.S.Store l.fn.book) (state g.S.Store l.book) l.kept-index l.all (g.W.Write.contents l.fn.out) (g.W.Write.contents l.out)
    × MayGo (g.C.Certs.keeping l.certs) l.limit l.span l.records (state g.S.Store l.fn.book) (state g.S.Store l.book)

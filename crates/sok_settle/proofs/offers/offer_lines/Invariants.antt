use Rattle.std.proofs.Common.{length}
use Rattle.sqlite.specs.Held.{state}
use Rattle.sok_settle.proofs.Lines.{IsAt}
use Rattle.sok_settle.proofs.offers.offer_lines.Given as goal

abbrev pub invariant-loop-rest : goal.invariant-loop-rest
invariant-loop-rest g l =
    IsAt l.text (state g.S.Store l.fn.book) (state g.S.Store l.book) l.rest l.all (g.W.Write.contents l.fn.out) (g.W.Write.contents l.out)

abbrev pub decreases-loop-rest : goal.decreases-loop-rest
decreases-loop-rest g l = length l.rest

use Rattle.std.proofs.Common.{ℤ, Err, subst, subst₂, sym, w64}
use Rattle.std.proofs.lemmas.Int.{to_z-of_z}
use Rattle.std.proofs.lemmas.Result.{err_from_is_err_and}
use Rattle.sqlite.specs.Held.{state}
use Rattle.sok_rules.specs.Squares.{Rows}
use Rattle.sok_cert.specs.Claim.TheVariants as claim
use Rattle.sok_settle.specs.Keeping.{TellsKept}
use Rattle.sok_settle.proofs.Offering.{kept_goes, unkept_goes}
use Rattle.sok_settle.proofs.level.settle_unsolvable.Goals as goal

pub returns : goal.returns
returns g c limit span page same certifies =
    let keeping = g.C.Certs.keeping c.args.certs.now in
    let shown = claim.Unsolvable in
    kept_goes keeping limit span c.args.id page shown (state g.S.Store c.args.book.now) (state g.S.Store c.set_unsolvable.new.book)
    (g.W.Write.contents c.args.out.now) (g.W.Write.contents c.set_unsolvable.new.out) c.set_unsolvable.result
    (subst (λ (r : Rows). keeping.keeps limit c.args.id r shown) (sym same)
    (rw (to_z-of_z w64 c.args.id c.ranges.id) at (c.in_ok-keep.ensures c.args.level.now limit certifies)))
    (rw (to_z-of_z w64 c.args.id c.ranges.id) at (c.set_unsolvable.ensures span page same))

pub returns-in_err-keep : goal.returns-in_err-keep
returns-in_err-keep g c limit span page same certifies =
    let keeping = g.C.Certs.keeping c.args.certs.now in
    let shown = claim.Unsolvable in
    let p = err_from_is_err_and c.from_residual.result c.from_residual.ensures.1 in
    let fault = c.in_err-keep.field-0.0 in
    rw (p.1, p.2) (unkept_goes keeping limit span c.args.id page shown (Unit {0}) (state g.S.Store c.args.book.now) fault (g.W.Write.contents c.args.out.now)
    (subst₂ (λ (i : ℤ) (r : Rows). TellsKept {X = Unit {0}} keeping limit i r shown (Err fault)) (to_z-of_z w64 c.args.id c.ranges.id) (sym same)
    (c.in_err-keep.ensures c.args.level.now limit certifies)))

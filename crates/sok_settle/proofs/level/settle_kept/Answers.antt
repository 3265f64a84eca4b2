use Rattle.std.proofs.Common.{◌≡◌, ◌∙◌, inl, inr, sym, true≢false}
use Rattle.sqlite.specs.Held.{state}
use Rattle.sok_book.specs.declared.record.Verdict.TheVariants.{Optimal, Unsolvable, Untested}
use Rattle.sok_settle.proofs.Passing.{beyond, level_goes, passed_goes}
use Rattle.sok_settle.proofs.level.settle_kept.Goals as goal

pub returns-then-is_beyond : goal.returns-then-is_beyond
returns-then-is_beyond g c =
    rw (← c.kept.view_is) (passed_goes (g.C.Certs.keeping c.args.certs.now) c.args.limit c.args.span _ (state g.S.Store c.args.book.now) (g.W.Write.contents c.args.out.now)
    (λ book of_book is. inl (beyond c.args.span _ book of_book is (c.is_beyond.ensures.0 c.if-is_beyond.true))))

pub returns-in-Untested : goal.returns-in-Untested
returns-in-Untested g c =
    rw (← c.kept.view_is) (level_goes (g.C.Certs.keeping c.args.certs.now) c.args.limit c.args.span _ (state g.S.Store c.args.book.now) (state g.S.Store c.settle_level.new.book)
    (g.W.Write.contents c.args.out.now) (g.W.Write.contents c.settle_level.new.out) c.settle_level.result
    (λ it. true≢false (sym (c.is_beyond.ensures.1 it) ∙ c.if-is_beyond.false)) c.in-Untested.is
    (rw (← c.kept.view_is) at (c.settle_level.ensures c.args.span)))

pub returns-in-Optimal : goal.returns-in-Optimal
returns-in-Optimal g c =
    rw (← c.kept.view_is) (passed_goes (g.C.Certs.keeping c.args.certs.now) c.args.limit c.args.span _ (state g.S.Store c.args.book.now) (g.W.Write.contents c.args.out.now)
    (λ book of_book is. inr (λ untested. let no : Optimal ≡ Untested = sym c.in-Optimal.is ∙ untested in absurd cc)))

pub returns-in-Unsolvable : goal.returns-in-Unsolvable
returns-in-Unsolvable g c =
    rw (← c.kept.view_is) (passed_goes (g.C.Certs.keeping c.args.certs.now) c.args.limit c.args.span _ (state g.S.Store c.args.book.now) (g.W.Write.contents c.args.out.now)
    (λ book of_book is. inr (λ untested. let no : Unsolvable ≡ Untested = sym c.in-Unsolvable.is ∙ untested in absurd cc)))

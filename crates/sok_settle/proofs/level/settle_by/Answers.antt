use Rattle.std.proofs.Common.{◌≡◌, ◌∙◌, None, Some, ap, arith, subst, subst₂, sym, w64}
use Rattle.std.proofs.lemmas.Int.{to_z-of_z}
use Rattle.sqlite.specs.Held.{state}
use Rattle.sok_rules.specs.Squares.{Rows}
use Rattle.sok_cert.specs.Claim.{Claim}
use Rattle.sok_cert.specs.Claim.TheVariants as claim
use Rattle.sok_search.specs.Findings.{claim_of}
use Rattle.sok_book.specs.Books.{PageWithId, Solution}
use Rattle.sok_book.specs.Commands.{best_pushes}
use Rattle.sok_settle.specs.Finding.{Shows}
use Rattle.sok_settle.proofs.Levels.{best_claim, none_claim}
use Rattle.sok_settle.proofs.Offering.{limit_goes, too_long_goes}
use Rattle.sok_settle.proofs.level.settle_by.Goals as goal

pub returns-then-len-gt-LETTER_LIMIT : goal.returns-then-len-gt-LETTER_LIMIT
returns-then-len-gt-LETTER_LIMIT g c span =
    let page = c.args.kept.now.page in
    let found = subst (Shows (g.C.Certs.certifies c.args.taken page.level c.args.limit) page.level c.args.limit (best_pushes page)) c.in-Solved.is c.requires.found in
    too_long_goes (g.C.Certs.keeping c.args.certs.now) c.args.limit span c.args.id page (state g.S.Store c.args.book.now) c.in-Solved.dirs.items
    c.in-Solved.pushes (g.W.Write.contents c.args.out.now) (g.W.Write.contents c.tell_fault.new.out) c.tell_fault.result found.0 (omega arith)
    (rw (to_z-of_z w64 c.args.id c.ranges.id) at c.tell_fault.ensures)

pub returns-else-len-gt-LETTER_LIMIT : goal.returns-else-len-gt-LETTER_LIMIT
returns-else-len-gt-LETTER_LIMIT g c span =
    let page = c.args.kept.now.page in
    let same : page.level ≡ c.kept.inside.level = sym (ap (λ (k : PageWithId). k.page.level) c.kept.view_is) in
    let found = subst (Shows (g.C.Certs.certifies c.args.taken page.level c.args.limit) page.level c.args.limit (best_pushes page)) c.in-Solved.is c.requires.found in
    rw (to_z-of_z w64 c.args.id c.ranges.id) at (c.settle_solved.ensures c.args.limit span page same
    (subst (λ (r : Rows). g.C.Certs.certifies c.args.taken r c.args.limit (claim.Pushes c.in-Solved.pushes)) same found.1))

pub returns-in-Some : goal.returns-in-Some
returns-in-Some g c span =
    let page = c.args.kept.now.page in
    let same : page.level ≡ c.kept.inside.level = sym (ap (λ (k : PageWithId). k.page.level) c.kept.view_is) in
    let found = subst (Shows (g.C.Certs.certifies c.args.taken page.level c.args.limit) page.level c.args.limit (best_pushes page)) c.in-NoBetter.is c.requires.found in
    let best_is : page.best ≡ Some c.in-Some.best = sym (ap (λ (k : PageWithId). k.page.best) c.kept.view_is) ∙ c.in-Some.is in
    let shown : claim_of (best_pushes page) ≡ claim.Pushes c.best.inside.pushes =
    best_claim page c.in-Some.best best_is ∙ sym (ap (λ (b : Solution). claim.Pushes b.pushes) c.best.view_is) in
    rw (to_z-of_z w64 c.args.id c.ranges.id) at (c.settle_solved-in-Some.ensures c.args.limit span page same
    (subst₂ (λ (r : Rows) (it : Claim). g.C.Certs.certifies c.args.taken r c.args.limit it) same shown found.1))

pub returns-in-None : goal.returns-in-None
returns-in-None g c span =
    let page = c.args.kept.now.page in
    let same : page.level ≡ c.kept.inside.level = sym (ap (λ (k : PageWithId). k.page.level) c.kept.view_is) in
    let found = subst (Shows (g.C.Certs.certifies c.args.taken page.level c.args.limit) page.level c.args.limit (best_pushes page)) c.in-NoBetter.is c.requires.found in
    let best_is : page.best ≡ None = sym (ap (λ (k : PageWithId). k.page.best) c.kept.view_is) ∙ c.in-None.is in
    rw (to_z-of_z w64 c.args.id c.ranges.id) at (c.settle_unsolvable.ensures c.args.limit span page same
    (subst₂ (λ (r : Rows) (it : Claim). g.C.Certs.certifies c.args.taken r c.args.limit it) same (none_claim page best_is) found.1))

pub returns-in-Limit : goal.returns-in-Limit
returns-in-Limit g c span =
    let page = c.args.kept.now.page in
    let shown = subst (Shows (g.C.Certs.certifies c.args.taken page.level c.args.limit) page.level c.args.limit (best_pushes page)) c.in-Limit.is c.requires.found in
    limit_goes (g.C.Certs.keeping c.args.certs.now) c.args.limit span c.args.id page (state g.S.Store c.args.book.now) c.in-Limit.at_least
    (g.W.Write.contents c.args.out.now) (g.W.Write.contents c.tell.new.out) c.tell.result shown.0 shown.1
    (rw (c.limit_line.ensures, to_z-of_z w64 c.args.id c.ranges.id) at c.tell.ensures)

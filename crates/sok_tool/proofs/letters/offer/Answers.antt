use Rattle.std.proofs.Common.{ℤ, ℕ, List}
use Rattle.sqlite.specs.Held.{state}
use Rattle.sok_keep.specs.Offers.{OffersText, WritesOffer}
use Rattle.sok_keep.proofs.Ids.{of_passed}
use Rattle.sok_tool.specs.Databases.{IsNeverLacking, WorksOn, place}
use Rattle.sok_databases.specs.declared.databases.Access.TheVariants as accesses
use Rattle.sok_tool.proofs.Plain.{none_read, on_read}
use Rattle.sok_tool.proofs.letters.offer.Goals as goal

pub returns-in_err-letters : goal.returns-in_err-letters
returns-in_err-letters g c = none_read _ _ _ _ _ _ c.from_residual.ensures.1 c.in_err-letters.ensures.unread

pub returns : goal.returns
returns g c =
    let before = g.W.Write.contents c.args.out.now in
    let later = g.W.Write.contents c.offer.new.out in
    let db = c.args.db.now in
    let Works : ℤ → List ℕ → Type 0 = λ id letters. WorksOn (place (state g.S.Store)
    (g.F.Databases.databases c.args.rt.now) accesses.Change db) IsNeverLacking
    (OffersText id letters) (λ ended book after. WritesOffer book id letters after before later ended)
    (record { old = before; new = later }) c.offer.result in
    on_read _ _ (Works c.args.id) _ _ _ c.as_slice.result.now c.as_slice.ensures.value c.in_ok-letters.ensures.letters
    (of_passed (λ id. Works id c.as_slice.result.now) c.args.id c.ranges.id c.offer.ensures)

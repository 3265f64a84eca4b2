use Rattle.std.proofs.Common.{arith, ◌<◌, ◌^◌, unsigned_abs, ◌≡◌, ◌≢◌, ◌⊎◌, ℤ, ℕ, pos, sym, ap, inl, inr, ◌∙◌}
use Rattle.std.proofs.Common.{Result, Err, Ok, IfOk, IfErr, to_z, of_z, w64}
use Rattle.std.proofs.lemmas.Int.{to_z-of_z, fits_signed_from_abs}
use Rattle.sqlite.specs.Order.{Row, column}
use Rattle.sok_book.specs.declared.fault.BookFault.{BookFault}
use Rattle.sok_book.specs.declared.fault.BookFault.TheVariants.{BadBook, Memory}
use Rattle.sok_book.specs.Books.{Page, PageWithId}
use Rattle.sok_book.specs.Kept.{IsKeptPage}
use Rattle.sok_sql.specs.Leaves.{Leaf, shown}
use Rattle.sok_store.specs.BadRows.{id_or_place}
use Rattle.sok_store.specs.ReadRows.{IsNoRecordIn, IsRecordIn}
use Rattle.sok_store.specs.Rows.{leaf_of}
use Rattle.sok_store.proofs.Leaves.{kept-readable, leaf-back}
use Rattle.sok_store.proofs.page.record_in.Goals as goal

module _ (place : ℕ) (id : ℤ) (same : id ≡ pos place) (row : Row) (leaf : Leaf) (is : row ≡ shown place leaf) where
  read-from : (result : Result PageWithId BookFault) → IfOk result (λ kept. kept.id ≡ id) → IfOk result (λ kept. IsKeptPage kept.page)
      → IfOk result (λ kept. leaf ≡ leaf_of kept.page) → IfOk result (IsRecordIn place row)
  read-from (Ok kept) ids may leaves = record { id_is = ids ∙ same; kept = may; row_is = is ∙ ap (shown place) leaves }
  read-from (Err fault) ids may leaves = tt

  named : id_or_place place (column row 0) ≡ pos place
  named = ap (λ r. id_or_place place (column r 0)) is

  broken-from : (result : Result PageWithId BookFault)
      → IfErr result (λ fault. (fault ≡ Memory) ⊎ ((fault ≡ BadBook id) × ((page : Page) → IsKeptPage page → leaf ≢ leaf_of page)))
      → IfErr result (IsNoRecordIn place row)
  broken-from (Ok kept) broken = tt
  broken-from (Err fault) (inl memory) = inl memory
  broken-from (Err fault) (inr bad) = inr (
    bad.0 ∙ ap BadBook (same ∙ sym named),
    λ page kept e. bad.1 page kept (leaf-back place place leaf (leaf_of page) (sym is ∙ e)),
  )

pub returns-in-Ok-Some-clause-read : goal.returns-in-Ok-Some-clause-read
returns-in-Ok-Some-clause-read c =
    let small : unsigned_abs (pos c.args.place) < 2 ^ 63 = omega (arith, c.ranges.place.fits) in
    let fits = fits_signed_from_abs w64 (pos c.args.place) small in
    let id : to_z w64 (of_z w64 c.from.result) ≡ pos c.args.place = ap (λ z. to_z w64 (of_z w64 z)) c.from.ensures ∙ to_z-of_z w64 (pos c.args.place) fits in
    read-from c.args.place (to_z w64 (of_z w64 c.from.result)) id c.args.row.now c.in-Ok-Some.columns
    (rw c.in-Ok-Some.field-0-is at c.in-Ok-Some.ensures.some) c.record_of.result c.record_of.ensures.id c.record_of.ensures.kept c.record_of.ensures.leaf

pub returns-in-Ok-Some-clause-broken : goal.returns-in-Ok-Some-clause-broken
returns-in-Ok-Some-clause-broken c =
    let small : unsigned_abs (pos c.args.place) < 2 ^ 63 = omega (arith, c.ranges.place.fits) in
    let fits = fits_signed_from_abs w64 (pos c.args.place) small in
    let id : to_z w64 (of_z w64 c.from.result) ≡ pos c.args.place = ap (λ z. to_z w64 (of_z w64 z)) c.from.ensures ∙ to_z-of_z w64 (pos c.args.place) fits in
    broken-from c.args.place (to_z w64 (of_z w64 c.from.result)) id c.args.row.now c.in-Ok-Some.columns
    (rw c.in-Ok-Some.field-0-is at c.in-Ok-Some.ensures.some) c.record_of.result c.record_of.ensures.broken

pub returns-in-Ok-clause-broken : goal.returns-in-Ok-clause-broken
returns-in-Ok-clause-broken c =
    inr (
      ap BadBook (to_z-of_z w64 c.in-Ok.id c.in-Ok.ensures.fits ∙ c.in-Ok.ensures.ok),
      λ page kept e. c.in-Ok-None.ensures.none (ap Ok c.in-Ok-None.field-0-is) (leaf_of page) (kept-readable page kept) e,
    )

-- What is known of the page of a record, and of the levels that are passed over.
use Rattle.std.proofs.Common.{ℕ, ◌≡◌, ◌≢◌, ◌⊎◌, ◌∙◌, ◌<◌, ◌≤◌, ◌^◌, zero, suc, arith, List, [], Bool, true, Option, Some, Result, Ok, refl, subst, sym, lit<}
use Rattle.std.proofs.lemmas.Option.{slice_get_within}
use Rattle.std.proofs.KnownBytes.{Appends-nil}
use Rattle.sqlite.specs.State.{State}
use Rattle.sok_book.specs.declared.record.Verdict.TheVariants.{Untested}
use Rattle.sok_book.specs.Books.{Book, Page, PageWithId, page_at}
use Rattle.sok_engine.specs.declared.fault.ToolFault.{ToolFault}
use Rattle.sok_store.specs.Rows.{IsKeptBook}
use Rattle.sok_store.specs.Calls.{id_number}
use Rattle.sok_store.proofs.Calls.{stops_same}
use Rattle.sok_store.proofs.Wide.{wide}
use Rattle.sok_keep.proofs.Ids.{passed}
use Rattle.sok_settle.specs.declared.settle.Span.{Span}
use Rattle.sok_settle.specs.Keeping.{Keeping}
use Rattle.sok_settle.specs.Settles.{IsBeyond, IsTried, is_passed}
use Rattle.sok_settle.specs.Steps.{GoesThrough, IsRecordIn, MaySettle, StepsLevel}
use Rattle.sok_settle.proofs.Going.{goes_other, same_leads}

-- ---- the id of a record

-- it is small, and so it is passed as it is
record_passed : (kept : PageWithId) (book : Book) → IsKeptBook book → IsRecordIn kept book → passed kept.id ≡ kept.id
record_passed kept book of_book is =
    let id = id_number kept.id in wide kept.id id (small book id kept.page of_book is.there) is.id_is ∙ sym is.id_is
  where
    small : (b : Book) (n : ℕ) (p : Page) → IsKeptBook b → page_at b n ≡ Some p → n < 2 ^ 63
    small b zero p of_b at = lit< tt
    small b (suc n) p of_b at =
        let within = slice_get_within b n p at in
        let few = of_b.few in
        let under : suc n ≤ 10000 = omega (arith, within, few) in omega (arith, under)

-- whether it is beyond those that are tried is told by the test
module _ (span : Span) (kept : PageWithId) (book : Book) (of_book : IsKeptBook book) (is : IsRecordIn kept book) where
  pub beyond : IsBeyond span (passed kept.id) → IsBeyond span kept.id
  beyond = subst (IsBeyond span) (record_passed kept book of_book is)

  within : (IsBeyond span (passed kept.id) → ⊥) → IsBeyond span kept.id → ⊥
  within other it = other (subst (IsBeyond span) (sym (record_passed kept book of_book is)) it)

-- ---- its page

-- the level of a record is tried, where nothing is proved of it
tried_as : (span : Span) (kept : PageWithId) → (IsBeyond span (passed kept.id) → ⊥) → kept.page.verdict ≡ Untested
    → (book : Book) → IsKeptBook book → IsRecordIn kept book → IsTried span kept.id kept.page book
tried_as span kept other untested book of_book is =
    record { there = is.there; within = within span kept book of_book is other; untested = untested }

module _ (keeping : Keeping) (limit : ℕ) (span : Span) (kept : PageWithId) where
  -- so it is settled as the level with its page is
  pub level_goes : (old new : State) (held later : Option (List ℕ)) (result : Result Bool ToolFault)
      → (IsBeyond span (passed kept.id) → ⊥) → kept.page.verdict ≡ Untested
      → GoesThrough (IsTried span (passed kept.id) kept.page) keeping limit span (passed kept.id) old new held later result
      → GoesThrough (IsRecordIn kept) keeping limit span kept.id old new held later result
  level_goes old new held later result other untested goes =
      goes_other old new _ _ _ _
      (λ book after of_book makes is.
      let same = record_passed kept book of_book is in
      subst (λ i. StepsLevel keeping limit span i book after held later result) same
      (makes (subst (λ i. IsTried span i kept.page book) (sym same) (tried_as span kept other untested book of_book is))))
      (λ book after of_book makes is.
      let same = record_passed kept book of_book is in
      subst (λ i. MaySettle keeping limit span i book after) same
      (makes (subst (λ i. IsTried span i kept.page book) (sym same) (tried_as span kept other untested book of_book is))))
      result goes

  -- a level that is beyond those that are tried, or has a verdict, is passed over
  pub passed_goes : (s : State) (held : Option (List ℕ))
      → ((book : Book) → IsKeptBook book → IsRecordIn kept book → IsBeyond span kept.id ⊎ (kept.page.verdict ≢ Untested))
      → GoesThrough (IsRecordIn kept) keeping limit span kept.id s s held held (Ok true)
  passed_goes s held why =
      let step : (book : Book) → IsKeptBook book → IsRecordIn kept book → StepsLevel keeping limit span kept.id book book held held (Ok true) = λ book of_book is.
      ([], is_passed kept.page is.there (why book of_book is) refl refl refl, Appends-nil held) in
      let (turns, carries) = same_leads s _ step in record { turns = turns; done = carries; stop = stops_same s _; cause = tt }

-- What is known of the page of a level, before and after its solution is offered.
use Rattle.std.proofs.Common.{ℕ, ℤ, ◌≡◌, ◌∙◌, ◌≤◌, inl, inr, List, Option, Some, None, Bool, false, IfSome, IsSomeAnd, ap, arith, length, refl, subst, sym}
use Rattle.std.proofs.Common.{option_map, if◌then◌else◌}
use Rattle.std.proofs.lemmas.Bool.{cases_Bool}
use Rattle.std.proofs.lemmas.Bool.Decides.{nat_tests}
use Rattle.std.proofs.lemmas.Option.{same_Some}
use Rattle.sok_rules.specs.declared.cell.Dir.{Dir}
use Rattle.sok_rules.specs.Limits.{letter_limit}
use Rattle.sok_rules.specs.Squares.{Rows}
use Rattle.sok_rules.specs.Play.{IsFewest, IsUnsolvable, Solves, pushes, start}
use Rattle.sok_rules.proofs.Runs.{pushes-le-length}
use Rattle.sok_cert.specs.Claim.{Claim}
use Rattle.sok_cert.specs.Claim.TheVariants as claim
use Rattle.sok_cert.specs.Text.{number_limit}
use Rattle.sok_search.specs.Findings.{claim_of}
use Rattle.sok_book.specs.declared.fault.BookFault.{BookFault}
use Rattle.sok_book.specs.declared.fault.BookFault.TheVariants as refusal
use Rattle.sok_book.specs.declared.record.Offer.{Offer}
use Rattle.sok_book.specs.declared.record.Verdict.TheVariants.{Untested}
use Rattle.sok_book.specs.Books.{Book, Page, Solution, page_at, solution_of}
use Rattle.sok_book.specs.Commands.{Meets, Offers, SetsVerdict, best_pushes, is_better, offer_answer, with_best, with_page, verdict_of}
use Rattle.sok_book.specs.Refusals.{IsNotOffered}
use Rattle.sok_book.proofs.Outcomes.{offers-are-not-refused}
use Rattle.sok_book.specs.Kept.{IsKeptPage, IsKeptSolution}
use Rattle.sok_store.specs.Rows.{IsKeptBook}
use Rattle.sok_store.specs.Calls.{id_number}
use Rattle.sok_store.specs.Verdicts.{IsNotSet}
use Rattle.sok_store.proofs.Found.{kept_at, page_there, some_and}
use Rattle.sok_keep.specs.Offers.{HasBest}
use Rattle.sok_settle.specs.declared.settle.Span.{Span}
use Rattle.sok_settle.specs.Settles.{IsTried}
use Rattle.sok_settle.specs.Steps.{AreFewest}

-- ---- letters that solve a level are not refused

pub never_refused : (span : Span) (id : ℤ) (page : Page) (book : Book) (letters : List Dir) (fault : BookFault) → IsTried span id page book
    → Solves page.level letters → length letters ≤ letter_limit → IsNotOffered book (id_number id) letters fault → ⊥
never_refused span id page book letters fault tried solves few refused =
    let answer = offer_answer (is_better (pushes page.level (start page.level) letters) (best_pushes page)) in
    let after = with_page book (id_number id) (with_best page (solution_of page.level letters)) in
    let offers : Offers book (id_number id) letters answer after = record {
      page = page;
      there = tried.there;
      few = few;
      solves = solves;
      answer_is = refl;
      after_is = refl;
    } in
    offers-are-not-refused book after (id_number id) letters answer fault offers refused

-- ---- the best of a level

-- a level has this best number of pushes, if it has a best
best_least : (rows : Rows) (least : ℕ) (best : Solution) → IsFewest rows least → IsKeptSolution rows best → least ≤ best.pushes
best_least rows least best fewest kept =
    let count : best.pushes ≡ pushes rows (start rows) best.letters = ap (λ (s : Solution). s.pushes) kept.solution.counted in
    subst (λ n. least ≤ n) (sym count) (fewest.least best.letters kept.solution.solves)

no_better : (rows : Rows) (least : ℕ) (best : Option Solution) → IsFewest rows least → IfSome best (IsKeptSolution rows)
    → is_better least (option_map (λ b. b.pushes) best) ≡ false → option_map (λ b. b.pushes) best ≡ Some least
no_better rows least None fewest kept worse = absurd cc
no_better rows least (Some best) fewest kept worse =
    let low = best_least rows least best fewest kept in
    let high : best.pushes ≤ least = grind (arith, nat_tests, worse) in
    let same : best.pushes ≡ least = omega (arith, low, high) in
    ap Some same

-- the page with the solution as its best, or as it was, has so many pushes as its best
pub record HasLeast (book : Book) (id : ℕ) (rows : Rows) (least : ℕ) : Type 0 where
  pub page : Page
  pub there : page_at book id ≡ Some page
  pub level : page.level ≡ rows
  pub best : best_pushes page ≡ Some least

best_is : (page : Page) (letters : List Dir) (least : ℕ) → IsKeptPage page → AreFewest page.level letters least
    → ((with_best page (solution_of page.level letters)).level ≡ page.level) × (best_pushes (with_best page (solution_of page.level letters)) ≡ Some least)
best_is page letters least kept is =
    let new = solution_of page.level letters in
    let improved : Page = record page { best = Some new; verdict = Untested } in
    elim (cases_Bool (is_better new.pushes (best_pushes page))) [
      | inl better ↦
          let chosen : with_best page new ≡ improved = ap (λ (b : Bool). if b then improved else page) better in
          (ap (λ (p : Page). p.level) chosen, ap best_pushes chosen ∙ ap Some is.counted)
      | inr worse ↦
          let chosen : with_best page new ≡ page = ap (λ (b : Bool). if b then improved else page) worse in
          let test : is_better least (best_pushes page) ≡ false = ap (λ n. is_better n (best_pushes page)) (sym is.counted) ∙ worse in
          (ap (λ (p : Page). p.level) chosen, ap best_pushes chosen ∙ no_better page.level least page.best is.fewest kept.best test)
    ]

-- and so it has no verdict
pub best_untested : (page : Page) (solution : Solution) → page.verdict ≡ Untested → (with_best page solution).verdict ≡ Untested
best_untested page solution untested =
    let improved : Page = record page { best = Some solution; verdict = Untested } in
    elim (cases_Bool (is_better solution.pushes (best_pushes page))) [
      | inl better ↦ ap (λ (b : Bool). (if b then improved else page).verdict) better
      | inr worse ↦ ap (λ (b : Bool). (if b then improved else page).verdict) worse ∙ untested
    ]

-- after the solution was offered
pub offered_best : (span : Span) (id : ℤ) (page : Page) (book middle : Book) (letters : List Dir) (least : ℕ) (offer : Offer) → IsKeptBook book
    → IsTried span id page book → AreFewest page.level letters least → Offers book (id_number id) letters offer middle
    → HasLeast middle (id_number id) page.level least
offered_best span id page book middle letters least offer kept tried is offered =
    let one : offered.page ≡ page = same_Some offered.page page (sym offered.there ∙ tried.there) in
    let level : offered.page.level ≡ page.level = ap (λ (p : Page). p.level) one in
    let new = with_best offered.page (solution_of offered.page.level letters) in
    let (stays, best) = best_is offered.page letters least (kept_at book (id_number id) offered.page kept offered.there)
    (subst (λ (r : Rows). AreFewest r letters least) (sym level) is) in
    record {
      page = new;
      there = ap (λ (b : Book). page_at b (id_number id)) offered.after_is ∙ page_there book (id_number id) offered.page new offered.there;
      level = stays ∙ level;
      best = best;
    }

-- so a claim of its pushes is not refused
pub never_differs : (book : Book) (id : ℕ) (rows : Rows) (least : ℕ) (fault : BookFault) → HasLeast book id rows least
    → IsNotSet book id rows (claim.Pushes least) fault → ⊥
never_differs book id rows least refusal.NoLevel has refused = refused (some_and (page_at book id) (λ p. p.level ≡ rows) has.page has.there has.level)
never_differs book id rows least refusal.ClaimDiffers has refused =
    subst (λ (o : Option Page). IsSomeAnd o (λ p. Meets (claim.Pushes least) (best_pushes p) → ⊥)) has.there refused.1 has.best
never_differs book id rows least fault has refused = refused

-- and the best that is told has as many
pub best_told : (book : Book) (id : ℕ) (rows : Rows) (least : ℕ) (best : Solution) → HasLeast book id rows least → HasBest book id best → best.pushes ≡ least
best_told book id rows least best has told =
    let here : has.page.best ≡ Some best = subst (λ (o : Option Page). IsSomeAnd o (λ p. p.best ≡ Some best)) has.there told in
    same_Some best.pushes least (sym (ap (option_map (λ (b : Solution). b.pushes)) here) ∙ has.best)

-- and a verdict that is set leaves it
pub best_stays : (middle after : Book) (id : ℕ) (shown : Claim) (best : Solution) → SetsVerdict middle id shown after → HasBest middle id best
    → HasBest after id best
best_stays middle after id shown best sets has =
    let new : Page = record sets.page { verdict = verdict_of shown } in
    let at : page_at after id ≡ Some new = ap (λ (b : Book). page_at b id) sets.after_is ∙ page_there middle id sets.page new sets.there in
    let here : sets.page.best ≡ Some best = subst (λ (o : Option Page). IsSomeAnd o (λ p. p.best ≡ Some best)) sets.there has in
    some_and (page_at after id) (λ p. p.best ≡ Some best) new at here

-- ---- the best that stands

-- its pushes are a number of a certificate
pub best_small : (page : Page) → IsKeptPage page → IfSome (best_pushes page) (λ k. k ≤ number_limit)
best_small page kept = go page.best kept.best
  where
    go : (best : Option Solution) → IfSome best (IsKeptSolution page.level) → IfSome (option_map (λ (b : Solution). b.pushes) best) (λ k. k ≤ number_limit)
    go None kept = tt
    go (Some best) kept =
        let count : best.pushes ≡ pushes page.level (start page.level) best.letters = ap (λ (b : Solution). b.pushes) kept.solution.counted in
        let low = pushes-le-length page.level best.letters (start page.level) in
        let few = kept.few in
        omega (arith, count, low, few)

-- what is claimed of it
pub best_claim : (page : Page) (best : Solution) → page.best ≡ Some best → claim_of (best_pushes page) ≡ claim.Pushes best.pushes
best_claim page best is = ap (λ (o : Option Solution). claim_of (option_map (λ (b : Solution). b.pushes) o)) is

pub none_claim : (page : Page) → page.best ≡ None → claim_of (best_pushes page) ≡ claim.Unsolvable
none_claim page is = ap (λ (o : Option Solution). claim_of (option_map (λ (b : Solution). b.pushes) o)) is

-- ---- a level that has no solution

no_best : (rows : Rows) (best : Option Solution) → IsUnsolvable rows → IfSome best (IsKeptSolution rows) → option_map (λ b. b.pushes) best ≡ None
no_best rows None unsolvable kept = refl
no_best rows (Some best) unsolvable kept = absurd (unsolvable best.letters kept.solution.solves)

-- a claim of this is not refused
pub never_solved : (span : Span) (id : ℤ) (page : Page) (book : Book) (fault : BookFault) → IsKeptBook book → IsTried span id page book → IsUnsolvable page.level
    → IsNotSet book (id_number id) page.level claim.Unsolvable fault → ⊥
never_solved span id page book refusal.NoLevel kept tried unsolvable refused =
    refused (some_and (page_at book (id_number id)) (λ p. p.level ≡ page.level) page tried.there refl)
never_solved span id page book refusal.ClaimDiffers kept tried unsolvable refused =
    let best = (kept_at book (id_number id) page kept tried.there).best in
    subst (λ (o : Option Page). IsSomeAnd o (λ p. Meets claim.Unsolvable (best_pushes p) → ⊥)) tried.there refused.1
    (no_best page.level page.best unsolvable best)
never_solved span id page book fault kept tried unsolvable refused = refused

-- What becomes of letters that are offered for a page.
use Rattle.std.proofs.Common.{◌≡◌, ◌≢◌, ◌⊎◌, inl, inr, refl, sym, ap, subst, ◌∙◌, ℕ, ℤ, ◌≤◌, List}
use Rattle.std.proofs.Common.{Option, Some, Ok, Bool, true, false, if◌then◌else◌, length, option_map}
use Rattle.sqlite.specs.State.{State}
use Rattle.sok_rules.specs.declared.cell.Dir.{Dir}
use Rattle.sok_rules.specs.Limits.{letter_limit}
use Rattle.sok_rules.specs.Squares.{Rows}
use Rattle.sok_rules.specs.Play.{start, pushes, Solves}
use Rattle.sok_book.specs.declared.fault.BookFault.{BookFault}
use Rattle.sok_book.specs.declared.fault.BookFault.TheVariants.{Database, Memory}
use Rattle.sok_book.specs.declared.record.Offer.TheVariants.{Kept, Stored}
use Rattle.sok_book.specs.declared.record.Verdict.TheVariants.{Untested}
use Rattle.sok_book.specs.Books.{Book, Page, Solution, page_at, solution_of}
use Rattle.sok_book.specs.Commands.{Offers, best_pushes, is_better, offer_answer, with_best, with_page}
use Rattle.sok_book.specs.Refusals.{IsNoSolution, IsNotOffered}
use Rattle.sok_book.specs.Kept.{IsKeptPage, IsKeptSolution}
use Rattle.sok_store.specs.declared.columns.BestColumns.{BestColumns}
use Rattle.sok_store.specs.Calls.{StoresChange}
use Rattle.sok_store.specs.Changing.{AreBestColumns, HasBest}
use Rattle.sok_store.specs.Running.{RunsReading}
use Rattle.sok_store.specs.Standing.{OffersTelling, StaysBest}
use Rattle.sok_store.specs.declared.standing.Standing.{Standing}
use Rattle.sok_store.proofs.Found.{page_read, page_there, some_and}
use Rattle.sok_store.proofs.Refusing.{not_offered}
use Rattle.sok_store.proofs.Running.{Replaces}
use Rattle.sok_store.proofs.Setting.{with_same_page}

-- ---- of the page

-- letters solve the level of a page, and it is told whether they push less than its best
record AreJudged (page : Page) (letters : List Dir) (better : Bool) : Type 0 where
  pub few : length letters ≤ letter_limit
  pub solves : Solves page.level letters
  pub better_is : is_better (pushes page.level (start page.level) letters) (best_pushes page) ≡ better

-- the page with the letters as its best
abbrev pub improved : Page → List Dir → Page
improved page letters = record page { best = Some (solution_of page.level letters); verdict = Untested }

best_is : (page : Page) (letters : List Dir) (better : Bool) → AreJudged page letters better
    → with_best page (solution_of page.level letters) ≡ (if better then improved page letters else page)
best_is page letters better judged = ap (λ (b : Bool). if b then improved page letters else page) judged.better_is

offers : (book : Book) (id : ℕ) (page : Page) (letters : List Dir) (better : Bool) → page_at book id ≡ Some page → AreJudged page letters better
    → Offers book id letters (offer_answer better) (with_page book id (if better then improved page letters else page))
offers book id page letters better at judged = record {
  page = page;
  there = at;
  few = judged.few;
  solves = judged.solves;
  answer_is = ap offer_answer (sym judged.better_is);
  after_is = ap (with_page book id) (sym (best_is page letters better judged));
}

-- the columns are of the solution that the letters are on the rows of the page
module _ (page : Page) (letters : List Dir) (best : BestColumns) (rows : Rows) (same : rows ≡ page.level)
    (found : AreBestColumns rows (solution_of rows letters) best) (keeps : IsKeptSolution rows (solution_of rows letters)) where
  are : AreBestColumns page.level (solution_of page.level letters) best
  are = subst (λ rows. AreBestColumns rows (solution_of rows letters) best) same found

  kept : IsKeptSolution page.level (solution_of page.level letters)
  kept = subst (λ rows. IsKeptSolution rows (solution_of rows letters)) same keeps

  judged_by : (better : Bool) → is_better best.pushes (best_pushes page) ≡ better → AreJudged page letters better
  judged_by better test = record {
    few = kept.few;
    solves = kept.solution.solves;
    better_is = ap (λ n. is_better n (best_pushes page)) (sym are.pushes) ∙ test;
  }

  improves : HasBest best page (improved page letters)
  improves = record { solution = solution_of page.level letters; kept = kept; columns_are = are; after_is = refl }

  -- ---- what is done of it

  pub offer_kept : (old mid : State) (id : ℕ) (n : ℤ) (told : Standing) → RunsReading old mid id (Ok (record { id = n; page = page }))
      → StaysBest page best.pushes told → StoresChange old mid (λ book after. OffersTelling book id letters told after)
  offer_kept old mid id n told read stays clean book holds =
      let (at, may, shows) = page_read old mid id (record { id = n; page = page }) read clean book holds in
      let test : is_better best.pushes (best_pushes page) ≡ false =
      ap (λ (o : Option Solution). is_better best.pushes (option_map (λ b. b.pushes) o)) stays.has ∙ stays.worse in
      let made = offers book id page letters false at (judged_by false test) in
      let done : Offers book id letters told.offer book =
      subst (λ o. Offers book id letters o book) (sym stays.offer) (subst (Offers book id letters Kept) (with_same_page book id page at) made) in (
        book,
        record {
          offered = done;
          best = stays.best;
          has = some_and (page_at book id) (λ p. p.best ≡ Some stays.best) page at stays.has;
          pushes = stays.pushes;
          moves = stays.moves;
        },
        shows,
      )

  pub offer_stored : (id : ℕ) → is_better best.pushes (best_pushes page) ≡ true
      → Replaces id page (λ told book after. OffersTelling book id letters told after)
      (record { offer = Stored; pushes = best.pushes; moves = best.moves }) (HasBest best)
  offer_stored id test = record {
    after = improved page letters;
    makes = λ book at. record {
      offered = offers book id page letters true at (judged_by true test);
      best = solution_of page.level letters;
      has = some_and (page_at (with_page book id (improved page letters)) id) (λ p. p.best ≡ Some (solution_of page.level letters)) (improved page letters)
          (page_there book id page (improved page letters) at) refl;
      pushes = are.pushes;
      moves = are.moves;
    };
    writes = λ may. improves;
  }

pub offer_refused : (id : ℕ) (letters : List Dir) (page : Page) (fault : BookFault) → (fault ≡ Memory) ⊎ IsNoSolution page.level letters fault
    → (book : Book) → IsKeptPage page → page_at book id ≡ Some page → (fault ≡ Memory) ⊎ ((fault ≢ Database) × IsNotOffered book id letters fault)
offer_refused id letters page fault (inl memory) book _ at = inl memory
offer_refused id letters page fault (inr none) book _ at =
    inr ((λ database. subst (IsNoSolution page.level letters) database none), not_offered book id page letters fault at none)

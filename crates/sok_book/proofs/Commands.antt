-- What becomes of a page by a command.
use Rattle.std.proofs.Common.{◌≡◌, inl, inr, refl, sym, ap, subst, ◌∙◌, ℕ, List, Option, Some, None}
use Rattle.std.proofs.lemmas.Option.{none-some}
use Rattle.sok_rules.specs.declared.cell.Dir.{Dir}
use Rattle.sok_rules.specs.Squares.{Rows}
use Rattle.sok_rules.specs.Play.{Solves}
use Rattle.sok_cert.specs.Claim.{Claim}
use Rattle.sok_cert.specs.Closed.{IsTrueOf}
use Rattle.sok_book.specs.Books.{Book, Page, page_at, solution_of}
use Rattle.sok_book.specs.Commands.{Adds, is_known, is_new, OneCommand, add, judge, offer, prove, IsCertificate, Meets, best_pushes, verdict_of}
use Rattle.sok_book.specs.Commands.{new_page, with_best, with_page}
use Rattle.sok_book.proofs.Pages.{page_at-with_page, page_at-with_page_none, page_at-push, page_at-push_past, same_id}

-- a page is as it was, has a solution offered to it, or has a verdict that is true
pub data Becomes (page next : Page) : Type 0 where
  stays : page ≡ next → Becomes page next
  is_offered : (letters : List Dir) → Solves page.level letters → with_best page (solution_of page.level letters) ≡ next → Becomes page next
  is_judged : (shown : Claim) → IsTrueOf page.level shown → Meets shown (best_pushes page) → record page { verdict = verdict_of shown } ≡ next
      → Becomes page next

pub record Changes (after : Book) (id : ℕ) (page : Page) : Type 0 where
  pub next : Page
  pub there : page_at after id ≡ Some next
  pub becomes : Becomes page next

-- in a book with another page at an id, which the page there becomes, each page becomes one
changed : (book : Book) (id at : ℕ) (before page new : Page) → page_at book id ≡ Some before → Becomes before new → page_at book at ≡ Some page
    → Changes (with_page book id new) at page
changed book id at before page new there becomes here = elim (page_at-with_page book id at page new here) [
  | inl other ↦ record { next = page; there = other; becomes = stays refl }
  | inr (same, now) ↦
      record { next = new; there = now; becomes = subst (λ (p : Page). Becomes p new) (same_id book id at before page there here same) becomes }
]

added : (book after : Book) (rows : Rows) (title : Option (List ℕ)) (id at : ℕ) (page : Page) → Adds book rows title id after → page_at book at ≡ Some page
    → Changes after at page
added book after rows title id at page (is_known stands same) there =
    record { next = page; there = ap (λ (b : Book). page_at b at) same ∙ there; becomes = stays refl }
added book after rows title id at page (is_new fresh room last grown) there =
    record { next = page; there = ap (λ (b : Book). page_at b at) grown ∙ page_at-push book at page (new_page rows title) there; becomes = stays refl }

-- what a certificate shows is true
certified : (rows : Rows) (bytes : List ℕ) (shown : Claim) → IsCertificate rows bytes shown → IsTrueOf rows shown
certified rows bytes shown it = subst (λ (r : Rows). IsTrueOf r shown) it.rows_are it.shown.true_claim

-- a verdict is set
judged : (book after : Book) (id at : ℕ) (before page : Page) (shown : Claim) → page_at book id ≡ Some before → IsTrueOf before.level shown
    → Meets shown (best_pushes before) → after ≡ with_page book id (record before { verdict = verdict_of shown }) → page_at book at ≡ Some page
    → Changes after at page
judged book after id at before page shown there truth meets is here =
    subst (λ (b : Book). Changes b at page) (sym is)
    (changed book id at before page (record before { verdict = verdict_of shown }) there (is_judged shown truth meets refl) here)

-- each page of a book becomes one of the book after a command
pub Changes-command : (book after : Book) (at : ℕ) (page : Page) → OneCommand book after → page_at book at ≡ Some page → Changes after at page
Changes-command book after at page (add rows title id accepted adds) there = added book after rows title id at page adds there
Changes-command book after at page (offer id letters answer offers) there =
    let best = solution_of offers.page.level letters in
    subst (λ (b : Book). Changes b at page) (sym offers.after_is)
    (changed book id at offers.page page (with_best offers.page best) offers.there (is_offered letters offers.solves refl) there)
Changes-command book after at page (prove id bytes shown proves) there =
    judged book after id at proves.page page shown proves.there (certified proves.page.level bytes shown proves.certificate) proves.meets proves.after_is there
Changes-command book after at page (judge id shown sets) there =
    judged book after id at sets.page page shown sets.there sets.true_claim sets.meets sets.after_is there

abbrev pub IsNewPage : Page → Type 0
IsNewPage page = (rows : Rows) × (title : Option (List ℕ)) × (new_page rows title ≡ page)

added_new : (book after : Book) (rows : Rows) (title : Option (List ℕ)) (id at : ℕ) (page : Page) → Adds book rows title id after → page_at book at ≡ None
    → page_at after at ≡ Some page → IsNewPage page
added_new book after rows title id at page (is_known stands same) past there =
    absurd (none-some page (sym past ∙ sym (ap (λ (b : Book). page_at b at) same) ∙ there))
added_new book after rows title id at page (is_new fresh room last grown) past there =
    (rows, title, page_at-push_past book at page (new_page rows title) past (sym (ap (λ (b : Book). page_at b at) grown) ∙ there))

none_new : (book after : Book) (id at : ℕ) (page new : Page) → after ≡ with_page book id new → page_at book at ≡ None → page_at after at ≡ Some page
    → IsNewPage page
none_new book after id at page new is past there =
    absurd (none-some page (sym (page_at-with_page_none book id at new past) ∙ sym (ap (λ (b : Book). page_at b at) is) ∙ there))

-- a page that a command brings is a new one
pub IsNewPage-command : (book after : Book) (at : ℕ) (page : Page) → OneCommand book after → page_at book at ≡ None → page_at after at ≡ Some page
    → IsNewPage page
IsNewPage-command book after at page (add rows title id accepted adds) past there = added_new book after rows title id at page adds past there
IsNewPage-command book after at page (offer id letters answer offers) past there = none_new book after id at page _ offers.after_is past there
IsNewPage-command book after at page (prove id bytes shown proves) past there = none_new book after id at page _ proves.after_is past there
IsNewPage-command book after at page (judge id shown sets) past there = none_new book after id at page _ sets.after_is past there

-- What each command makes of a book, and its answer.
use Rattle.std.specs.Prelude.{ℕ, ◌≡◌, ◌<◌, ◌≤◌, ◌+◌, ◌-◌, List, [], ◌∷◌, ◌++◌, Option, Some, None, Bool, true, false, IsSomeAnd, if◌then◌else◌, nat_lt}
use Rattle.std.specs.Prelude.{length, option_map, slice_set}
use Rattle.sok_rules.specs.declared.cell.Dir.{Dir}
use Rattle.sok_rules.specs.Limits.{letter_limit}
use Rattle.sok_rules.specs.Squares.{Rows}
use Rattle.sok_rules.specs.Play.{start, pushes, Solves}
use Rattle.sok_board.specs.Area.{BoardView, IsAccepted}
use Rattle.sok_board.specs.Refusals.{IsAcceptable}
use Rattle.sok_cert.specs.Claim.{Claim}
use Rattle.sok_cert.specs.Claim.TheVariants as claim
use Rattle.sok_cert.specs.Closed.{IsTrueOf}
use Rattle.sok_cert.specs.Verdicts.{IsProofOf}
use Rattle.sok_book.specs.declared.record.Offer.{Offer}
use Rattle.sok_book.specs.declared.record.Offer.TheVariants.{Stored, Kept}
use Rattle.sok_book.specs.declared.record.Verdict.{Verdict}
use Rattle.sok_book.specs.declared.record.Verdict.TheVariants as verdict
use Rattle.sok_book.specs.Books.{Book, Page, Solution, page_at, solution_of}

-- the greatest number of levels in a book
abbrev pub level_limit : ℕ
level_limit = 10000

-- a level with no best solution yet, and no verdict
abbrev pub new_page : Rows → Option (List ℕ) → Page
new_page rows title = record { level = rows; title = title; best = None; verdict = verdict.Untested }

-- the book after its page with this id is replaced
abbrev pub with_page : Book → ℕ → Page → Book
with_page book id page = slice_set book (id - 1) page

-- the level is in the book, with this id
abbrev pub StandsAt : Book → Rows → ℕ → Type 0
StandsAt book rows id = IsSomeAnd (page_at book id) (λ page. page.level ≡ rows)

abbrev pub IsUnknown : Book → Rows → Type 0
IsUnknown book rows = (id : ℕ) → StandsAt book rows id → ⊥

-- A level is added. If the book has it, it keeps its id and its title, and the book stays. A new level comes last.
pub data Adds (book : Book) (rows : Rows) (title : Option (List ℕ)) (id : ℕ) (after : Book) : Type 0 where
  is_known : StandsAt book rows id → after ≡ book → Adds book rows title id after
  is_new : IsUnknown book rows → length book < level_limit → id ≡ length book + 1 → after ≡ book ++ new_page rows title ∷ [] → Adds book rows title id after

-- the pushes of the best solution, if there is one
abbrev pub best_pushes : Page → Option ℕ
best_pushes page = option_map (λ best. best.pushes) page.best

-- a solution with this many pushes is better: there is no best one yet, or it has more pushes
abbrev pub is_better : ℕ → Option ℕ → Bool
is_better pushes None = true
is_better pushes (Some best) = nat_lt pushes best

abbrev pub offer_answer : Bool → Offer
offer_answer true = Stored
offer_answer false = Kept

-- the page with this best solution and no verdict, if it is better; otherwise the same page
abbrev pub with_best : Page → Solution → Page
with_best page best = if is_better best.pushes (best_pushes page) then record page { best = Some best; verdict = verdict.Untested } else page

-- Letters that solve a level are offered. They become its best solution if there is none yet, or if they have fewer pushes.
pub record Offers (book : Book) (id : ℕ) (letters : List Dir) (answer : Offer) (after : Book) : Type 0 where
  pub page : Page
  pub there : page_at book id ≡ Some page
  pub few : length letters ≤ letter_limit
  pub solves : Solves page.level letters
  pub answer_is : answer ≡ offer_answer (is_better (pushes page.level (start page.level) letters) (best_pushes page))
  pub after_is : after ≡ with_page book id (with_best page (solution_of page.level letters))

-- the bytes are a certificate that is closed on the level's board, and this is its claim
pub record IsCertificate (rows : Rows) (bytes : List ℕ) (claim : Claim) : Type 0 where
  pub board : BoardView
  pub rows_are : board.rows ≡ rows
  pub accepted : IsAccepted board
  pub shown : IsProofOf board bytes claim

-- a claim fits the best solution: it states the same number of pushes; or it states that there is no solution, and there is no best one
abbrev pub Meets : Claim → Option ℕ → Type 0
Meets (claim.Pushes k) best = best ≡ Some k
Meets claim.Unsolvable best = best ≡ None

abbrev pub verdict_of : Claim → Verdict
verdict_of (claim.Pushes k) = verdict.Optimal
verdict_of claim.Unsolvable = verdict.Unsolvable

-- a certificate proves a level's verdict: its claim fits the best solution
pub record Proves (book : Book) (id : ℕ) (bytes : List ℕ) (shown : Claim) (after : Book) : Type 0 where
  pub page : Page
  pub there : page_at book id ≡ Some page
  pub certificate : IsCertificate page.level bytes shown
  pub meets : Meets shown (best_pushes page)
  pub after_is : after ≡ with_page book id (record page { verdict = verdict_of shown })

-- a level's verdict is set by a true claim that fits the best solution
pub record SetsVerdict (book : Book) (id : ℕ) (shown : Claim) (after : Book) : Type 0 where
  pub page : Page
  pub there : page_at book id ≡ Some page
  pub true_claim : IsTrueOf page.level shown
  pub meets : Meets shown (best_pushes page)
  pub after_is : after ≡ with_page book id (record page { verdict = verdict_of shown })

-- one command makes the second book of the first
pub data OneCommand (book after : Book) : Type 0 where
  add : (rows : Rows) (title : Option (List ℕ)) (id : ℕ) → IsAcceptable rows → Adds book rows title id after → OneCommand book after
  offer : (id : ℕ) (letters : List Dir) (answer : Offer) → Offers book id letters answer after → OneCommand book after
  prove : (id : ℕ) (bytes : List ℕ) (shown : Claim) → Proves book id bytes shown after → OneCommand book after
  judge : (id : ℕ) (shown : Claim) → SetsVerdict book id shown after → OneCommand book after

-- The lines of a settling, level by level, and what becomes of the book.
use Rattle.std.specs.Prelude.{ℕ, ℤ, pos, ◌≡◌, ◌≢◌, ◌⊎◌, ◌+◌, ◌<◌, ◌<ℤ◌, List, [], ◌++◌, Option, Some, Bool, true, false, Result, Ok, Err, codes, length}
use Rattle.std.specs.Fmt.{decimal, signed_decimal}
use Rattle.std.specs.Io.KnownBytes.{Appends, Keeps}
use Rattle.sok_rules.specs.declared.cell.Dir.{Dir}
use Rattle.sok_rules.specs.declared.fault.PlayFault.TheVariants as play
use Rattle.sok_rules.specs.Limits.{letter_limit}
use Rattle.sok_rules.specs.Squares.{Rows}
use Rattle.sok_rules.specs.Play.{IsFewest, IsUnsolvable}
use Rattle.sok_cert.specs.Claim.{Claim}
use Rattle.sok_cert.specs.Claim.TheVariants as claim
use Rattle.sok_search.specs.Faults.{IsBadLimit}
use Rattle.sok_search.specs.Findings.{IsFewer}
use Rattle.sok_search.specs.Outcomes.{IsCutShort, IsLeastSolution}
use Rattle.sok_book.specs.declared.fault.BookFault.TheVariants as refusal
use Rattle.sok_book.specs.declared.record.Offer.{Offer}
use Rattle.sok_book.specs.declared.record.Verdict.TheVariants.{Untested}
use Rattle.sok_book.specs.Books.{Book, Page, Solution, page_at}
use Rattle.sok_book.specs.Commands.{Offers, SetsVerdict, best_pushes}
use Rattle.sok_engine.specs.declared.fault.ToolFault.{ToolFault}
use Rattle.sok_engine.specs.declared.fault.ToolFault.TheVariants as tool
use Rattle.sok_store.specs.Calls.{id_number}
use Rattle.sok_keep.specs.Offers.{HasBest}
use Rattle.sok_settle.specs.declared.settle.Span.{Span}
use Rattle.sok_settle.specs.Going.{EndsAt, GoesFirst, GoesSome, GoesUntil, Leave, Step}
use Rattle.sok_settle.specs.Keeping.{Keeping}
use Rattle.sok_settle.specs.Lines.{fault_line}

-- the line of a level whose best has the fewest pushes
abbrev pub optimal_line : ℤ → ℕ → ℕ → List ℕ
optimal_line id pushes moves =
    signed_decimal id ++ (codes " optimal " ++ (decimal pushes ++ (codes " " ++ (decimal moves ++ codes "\n"))))

-- of one without a solution
abbrev pub unsolvable_line : ℤ → List ℕ
unsolvable_line id = signed_decimal id ++ codes " unsolvable\n"

-- of one whose search reached its limit, with the lower bound that it shows
abbrev pub limit_line : ℤ → ℕ → ℕ → List ℕ
limit_line id limit least =
    signed_decimal id ++ (codes " limit " ++ (decimal limit ++ (codes " at least " ++ (decimal least ++ codes "\n"))))

-- a solution that has more letters than may be kept
abbrev pub too_long : ToolFault
too_long = tool.Book (refusal.Letters play.TooLong)

-- an id is outside the span
abbrev pub IsBeyond : Span → ℤ → Type 0
IsBeyond span id = (id <ℤ span.first) ⊎ (span.last <ℤ id)

-- the level with an id is tried, and has this page: it is in the span, and has no verdict
pub record IsTried (span : Span) (id : ℤ) (page : Page) (book : Book) : Type 0 where
  pub there : page_at book (id_number id) ≡ Some page
  pub within : IsBeyond span id → ⊥
  pub untested : page.verdict ≡ Untested

-- A solution is offered, and then the verdict `optimal` is set. So the level has this best afterwards, and no solution has fewer pushes.
pub record IsOptimal (id : ℤ) (book : Book) (rows : Rows) (best : Solution) (after : Book) : Type 0 where
  pub letters : List Dir
  pub offer : Offer
  pub middle : Book
  pub offered : Offers book (id_number id) letters offer middle
  pub set : SetsVerdict middle (id_number id) (claim.Pushes best.pushes) after
  pub has : HasBest after (id_number id) best
  pub fewest : IsFewest rows best.pushes

-- The level with an id, which has these rows, is settled by a claim, and this is its line: its best has as many pushes as claimed, and no solution has fewer;
-- or it has no solution.
abbrev pub SettlesBy : ℤ → Rows → Claim → Step
SettlesBy id rows (claim.Pushes n) book line settled after =
    (best : Solution) × (best.pushes ≡ n) × IsOptimal id book rows best after × (line ≡ optimal_line id best.pushes best.moves) × (settled ≡ true)
SettlesBy id rows claim.Unsolvable book line settled after =
    IsUnsolvable rows × SetsVerdict book (id_number id) claim.Unsolvable after × (line ≡ unsolvable_line id) × (settled ≡ true)

-- The level with an id is skipped, if it is outside the span or has a verdict. Or it is tried: it is settled, with a certificate of its claim kept, if those are
-- kept; or it is not settled. This is its line.
pub data SettlesLevel (keeping : Keeping) (limit : ℕ) (span : Span) (id : ℤ) (book : Book) (line : List ℕ) (settled : Bool) (after : Book) : Type 0 where
  is_passed : (page : Page) → page_at book (id_number id) ≡ Some page → IsBeyond span id ⊎ (page.verdict ≢ Untested) → line ≡ [] → settled ≡ true
      → after ≡ book → SettlesLevel keeping limit span id book line settled after
  is_settled : (page : Page) (shown : Claim) → IsTried span id page book → keeping.keeps limit id page.level shown
      → SettlesBy id page.level shown book line settled after → SettlesLevel keeping limit span id book line settled after
  is_past_limit : (page : Page) (least : ℕ) → IsTried span id page book → IsCutShort page.level limit limit least
      → IsFewer (best_pushes page) least → line ≡ limit_line id limit least → settled ≡ false → after ≡ book → SettlesLevel keeping limit span id book line settled after
  is_too_long : (page : Page) (letters : List Dir) (pushes : ℕ) → IsTried span id page book → IsLeastSolution page.level letters pushes
      → letter_limit < length letters → line ≡ fault_line id too_long → settled ≡ false → after ≡ book
      → SettlesLevel keeping limit span id book line settled after

-- the call ended at the level with an id: it is as it was, or a solution was offered
abbrev pub EndsLevel : Span → ℤ → Book → Book → Type 0
EndsLevel span id book after =
    (after ≡ book)
    ⊎ ((page : Page) × IsTried span id page book × (letters : List Dir) × (offer : Offer) × Offers book (id_number id) letters offer after)

-- how the call may end at a level: so; or its certificate can't be written
abbrev pub leave_of_level : Keeping → ℕ → Span → ℤ → Leave
leave_of_level keeping limit span id = record {
  leaves = EndsLevel span id;
  unwritten = λ book. (page : Page) × IsTried span id page book × keeping.unwritten limit id page.level;
}

-- the levels come in order of their ids, which count from 1
abbrev pub level_step : Keeping → ℕ → Span → ℕ → Step
level_step keeping limit span n = SettlesLevel keeping limit span (pos (n + 1))

abbrev pub level_leave : Keeping → ℕ → Span → ℕ → Leave
level_leave keeping limit span n = leave_of_level keeping limit span (pos (n + 1))

-- the first so many levels were gone through, with these lines; and whether each of them that was tried is settled
abbrev pub SettlesFirst : Keeping → ℕ → Span → Book → ℕ → List ℕ → Bool → Book → Type 0
SettlesFirst keeping limit span = GoesFirst (level_step keeping limit span)

-- some of the first levels were gone through, or none, and then the call ended
abbrev pub SettlesSome : Keeping → ℕ → Span → Book → Book → Type 0
SettlesSome keeping limit span = GoesSome (level_step keeping limit span) (level_leave keeping limit span)

abbrev pub settle_status : Bool → ℕ
settle_status true = 0
settle_status false = 4

-- How the call ends after so many levels, whose lines were written: all levels were gone through; or the limit was refused; or it ends at the next level.
abbrev pub EndsSettling : Keeping → ℕ → Span → Book → Book → Option (List ℕ) → Option (List ℕ) → Result ℕ ToolFault → ℕ → List ℕ → Bool → Book → Type 0
EndsSettling keeping limit span book after old new (Ok status) n text all before =
    (n ≡ length book) × (after ≡ before) × (status ≡ settle_status all) × Appends old new text
EndsSettling keeping limit span book after old new (Err tool.BadLimit) n text all before = IsBadLimit limit × (n ≡ 0) × (after ≡ book) × Keeps old new
EndsSettling keeping limit span book after old new (Err fault) n text all before =
    EndsAt (level_step keeping limit span n) (level_leave keeping limit span n) text before after old new fault

-- the first levels were gone through, and then the call ended
abbrev pub WritesSettling : Keeping → ℕ → Span → Book → Book → Option (List ℕ) → Option (List ℕ) → Result ℕ ToolFault → Type 0
WritesSettling keeping limit span book after old new result =
    GoesUntil (level_step keeping limit span) (EndsSettling keeping limit span book after old new result) book

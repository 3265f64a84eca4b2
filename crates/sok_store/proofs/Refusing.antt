-- Why a solution is not kept, or a verdict is not proved, on the page with an id.
use Rattle.std.proofs.Common.{◌≡◌, ℕ, List, Option, Some}
use Rattle.sok_rules.specs.declared.cell.Dir.{Dir}
use Rattle.sok_cert.specs.Claim.{Claim}
use Rattle.sok_cert.specs.Claim.TheVariants as claim
use Rattle.sok_book.specs.declared.fault.BookFault.{BookFault}
use Rattle.sok_book.specs.declared.fault.BookFault.TheVariants.{Database, Letters, NotSolved, NoLevel}
use Rattle.sok_book.specs.Books.{Book, Page, page_at}
use Rattle.sok_book.specs.Commands.{best_pushes}
use Rattle.sok_book.specs.Refusals.{Differs, IsNoSolution, IsNotOffered, IsNotProved, IsUnproved}
use Rattle.sok_store.proofs.Found.{some_and}

pub not_offered : (book : Book) (id : ℕ) (page : Page) (letters : List Dir) (fault : BookFault) → page_at book id ≡ Some page
    → IsNoSolution page.level letters fault → IsNotOffered book id letters fault
not_offered book id page letters (Letters f) at is = some_and (page_at book id) (λ p. IsNoSolution p.level letters (Letters f)) page at is
not_offered book id page letters NotSolved at is = some_and (page_at book id) (λ p. IsNoSolution p.level letters NotSolved) page at is
not_offered book id page letters fault at is = absurd is

never : (shown : Claim) (best : Option ℕ) → Differs shown best NoLevel → ⊥
never (claim.Pushes k) best differs = differs
never claim.Unsolvable best differs = differs

no_level : (page : Page) (bytes : List ℕ) → IsUnproved page bytes NoLevel → ⊥
no_level page bytes (b, rows, accepted, none) = let (shown, entries, spells, differs) = none in never shown (best_pushes page) differs

untold : (shown : Claim) (best : Option ℕ) → Differs shown best Database → ⊥
untold (claim.Pushes k) best differs = differs
untold claim.Unsolvable best differs = differs

pub no_database : (page : Page) (bytes : List ℕ) → IsUnproved page bytes Database → ⊥
no_database page bytes (b, rows, accepted, none) = let (shown, entries, spells, differs) = none in untold shown (best_pushes page) differs

pub not_proved : (book : Book) (id : ℕ) (page : Page) (bytes : List ℕ) (fault : BookFault) → page_at book id ≡ Some page
    → IsUnproved page bytes fault → IsNotProved book id bytes fault
not_proved book id page bytes NoLevel at is = absurd (no_level page bytes is)
not_proved book id page bytes fault at is = some_and (page_at book id) (λ p. IsUnproved p bytes fault) page at is

-- What becomes of a certificate for a page.
use Rattle.std.proofs.Common.{◌≡◌, ◌≢◌, ◌⊎◌, inl, inr, refl, subst, ℕ, List, Some}
use Rattle.sok_rules.specs.Squares.{Rows}
use Rattle.sok_board.specs.declared.fault.BoardFault.{BoardFault}
use Rattle.sok_board.specs.declared.fault.BoardFault.TheVariants as board
use Rattle.sok_board.specs.Area.{IsAccepted, BoardView}
use Rattle.sok_board.specs.Refusals.{IsAcceptable, IsRefused}
use Rattle.sok_board.proofs.OneRefusal.{IsRefused-acceptable}
use Rattle.sok_cert.specs.Claim.{Claim}
use Rattle.sok_book.specs.declared.fault.BookFault.{BookFault}
use Rattle.sok_book.specs.declared.fault.BookFault.TheVariants.{Database, Memory}
use Rattle.sok_book.specs.Books.{Book, Page, page_at}
use Rattle.sok_book.specs.Commands.{IsCertificate, Meets, Proves, best_pushes, verdict_of}
use Rattle.sok_book.specs.Faults.{of_board}
use Rattle.sok_book.specs.Refusals.{IsNoProof, IsNotProved, IsUnproved}
use Rattle.sok_book.specs.Kept.{IsKeptPage}
use Rattle.sok_store.proofs.KeptPages.{IsKeptPage-judged, judged}
use Rattle.sok_store.specs.Changing.{HasVerdict}
use Rattle.sok_store.proofs.Refusing.{no_database, not_proved}
use Rattle.sok_store.proofs.Running.{Replaces}

-- ---- of the page

-- a kept level is refused no board
board_of : (rows : Rows) (fault : BoardFault) → IsAcceptable rows → IsRefused rows fault → of_board fault ≡ Memory
board_of rows board.Memory accepted refused = refl
board_of rows fault accepted refused = absurd (IsRefused-acceptable rows fault (λ e. cc) refused accepted)

module _ (page : Page) (kept : IsKeptPage page) where
  pub no_board : (fault : BoardFault) → IsRefused page.level fault → of_board fault ≡ Memory
  no_board fault refused = board_of page.level fault kept.accepted refused

-- a board on which bytes prove nothing is one of the page
pub no_proof : (page : Page) (b : BoardView) → b.rows ≡ page.level → IsAccepted b → (bytes : List ℕ) (fault : BookFault)
    → (fault ≡ Memory) ⊎ IsNoProof b (best_pushes page) bytes fault → (fault ≡ Memory) ⊎ IsUnproved page bytes fault
no_proof page b rows accepted bytes fault (inl memory) = inl memory
no_proof page b rows accepted bytes fault (inr none) = inr (b, rows, accepted, none)

-- ---- what is done of it

pub proof_refused : (id : ℕ) (bytes : List ℕ) (page : Page) (fault : BookFault)
    → (IsKeptPage page → (fault ≡ Memory) ⊎ IsUnproved page bytes fault)
    → (book : Book) → IsKeptPage page → page_at book id ≡ Some page → (fault ≡ Memory) ⊎ ((fault ≢ Database) × IsNotProved book id bytes fault)
proof_refused id bytes page fault why book kept at = elim (why kept) [
  | inl memory ↦ inl memory
  | inr none ↦ inr ((λ database. no_database page bytes (subst (IsUnproved page bytes) database none)), not_proved book id page bytes fault at none)
]

pub proof_stored : (id : ℕ) (bytes : List ℕ) (page : Page) (shown : Claim) → IsCertificate page.level bytes shown → Meets shown (best_pushes page)
    → Replaces id page (λ claim book after. Proves book id bytes claim after) shown (HasVerdict (verdict_of shown))
proof_stored id bytes page shown certificate meets = record {
  after = judged page (verdict_of shown);
  makes = λ book at. record { page = page; there = at; certificate = certificate; meets = meets; after_is = refl };
  writes = λ kept. record { kept = IsKeptPage-judged page shown kept meets; after_is = refl };
}

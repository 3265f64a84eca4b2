-- A command is either done or refused, never both.
use Rattle.std.specs.Prelude.{ℕ, ◌≤◌, List, Option, length}
use Rattle.sok_rules.specs.declared.cell.Dir.{Dir}
use Rattle.sok_rules.specs.Limits.{letter_limit}
use Rattle.sok_rules.specs.Play.{Solves}
use Rattle.sok_rules.specs.Squares.{Rows}
use Rattle.sok_board.specs.Refusals.{IsAcceptable}
use Rattle.sok_cert.specs.Claim.{Claim}
use Rattle.sok_book.specs.declared.fault.BookFault.{BookFault}
use Rattle.sok_book.specs.declared.record.Offer.{Offer}
use Rattle.sok_book.specs.Books.{Book}
use Rattle.sok_book.specs.Commands.{Adds, Offers, Proves}
use Rattle.sok_book.specs.Refusals.{IsNoSolution, IsNotAdded, IsNotOffered, IsNotProved}

abbrev pub AddsAreNotRefused : Type 0
AddsAreNotRefused = (book after : Book) (rows : Rows) (title : Option (List ℕ)) (id : ℕ) (fault : BookFault) → IsAcceptable rows
    → Adds book rows title id after → IsNotAdded book rows fault → ⊥

abbrev pub OffersAreNotRefused : Type 0
OffersAreNotRefused = (book after : Book) (id : ℕ) (letters : List Dir) (answer : Offer) (fault : BookFault) → Offers book id letters answer after
    → IsNotOffered book id letters fault → ⊥

abbrev pub ProofsAreNotRefused : Type 0
ProofsAreNotRefused = (book after : Book) (id : ℕ) (bytes : List ℕ) (shown : Claim) (fault : BookFault) → Proves book id bytes shown after
    → IsNotProved book id bytes fault → ⊥

-- letters that may be kept are not refused
abbrev pub SolutionsAreNotRefused : Type 0
SolutionsAreNotRefused = (rows : Rows) (letters : List Dir) (fault : BookFault) → Solves rows letters → length letters ≤ letter_limit
    → IsNoSolution rows letters fault → ⊥

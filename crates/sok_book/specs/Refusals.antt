-- Why a command is refused: the first cause that applies, in a fixed order. A refused command changes nothing.
use Rattle.std.specs.Prelude.{ℕ, ◌≡◌, ◌≢◌, ◌<◌, ◌≤◌, ◌⊎◌, List, Option, None, IsNone, IsSome, IsSomeAnd, length}
use Rattle.sok_rules.specs.declared.cell.Dir.{Dir}
use Rattle.sok_rules.specs.Limits.{letter_limit}
use Rattle.sok_rules.specs.Squares.{Rows}
use Rattle.sok_rules.specs.Play.{start, run, Solves}
use Rattle.sok_rules.specs.Replay.{IsBlockedAt}
use Rattle.sok_rules.specs.declared.fault.PlayFault.TheVariants.{Blocked, TooLong}
use Rattle.sok_board.specs.declared.fault.BoardFault.TheVariants as board
use Rattle.sok_board.specs.Area.{BoardView, IsAccepted}
use Rattle.sok_board.specs.Refusals as level
use Rattle.sok_cert.specs.Claim.{Claim}
use Rattle.sok_cert.specs.Claim.TheVariants.{Pushes, Unsolvable}
use Rattle.sok_cert.specs.Entry.{Entry}
use Rattle.sok_cert.specs.CertFault.{CertFault}
use Rattle.sok_cert.specs.CertFault.TheVariants as cert
use Rattle.sok_cert.specs.Reading.{GoesWrong}
use Rattle.sok_cert.specs.Text.{SpellsCertificate}
use Rattle.sok_cert.specs.Refusals as list
use Rattle.sok_book.specs.declared.fault.BookFault.{BookFault}
use Rattle.sok_book.specs.declared.fault.BookFault.TheVariants.{Level, Letters, NotSolved, Certificate, NoLevel, NoBest, ClaimDiffers, BookFull}
use Rattle.sok_book.specs.Books.{Book, Page, page_at}
use Rattle.sok_book.specs.Commands.{IsUnknown, Meets, best_pushes, level_limit}

-- a level is not added: no board can be made of it, or it is new and the book is full
abbrev pub IsNotAdded : Book → Rows → BookFault → Type 0
IsNotAdded book rows (Level fault) = (fault ≢ board.Memory) × level.IsRefused rows fault
IsNotAdded book rows BookFull = level.IsAcceptable rows × IsUnknown book rows × (level_limit ≤ length book)
IsNotAdded book rows _ = ⊥

-- letters are not a solution that may be kept: there are too many, one is not legal, or they do not solve the level
abbrev pub IsNoSolution : Rows → List Dir → BookFault → Type 0
IsNoSolution rows letters (Letters TooLong) = letter_limit < length letters
IsNoSolution rows letters (Letters (Blocked at)) = (length letters ≤ letter_limit) × IsBlockedAt rows letters at
IsNoSolution rows letters NotSolved = (length letters ≤ letter_limit) × IsSome (run rows (start rows) letters) × (Solves rows letters → ⊥)
IsNoSolution rows letters _ = ⊥

-- letters are not accepted as an offer: there is no such level, or they are no solution of it
abbrev pub IsNotOffered : Book → ℕ → List Dir → BookFault → Type 0
IsNotOffered book id letters NoLevel = IsNone (page_at book id)
IsNotOffered book id letters fault = IsSomeAnd (page_at book id) (λ page. IsNoSolution page.level letters fault)

-- The claim does not fit the best solution. Either it states a number of pushes, and there is no solution or one with another number; or it states that there
-- is no solution, and there is one.
abbrev pub Differs : Claim → Option ℕ → BookFault → Type 0
Differs (Pushes k) best NoBest = best ≡ None
Differs (Pushes k) best ClaimDiffers = IsSomeAnd best (λ pushes. pushes ≢ k)
Differs Unsolvable best ClaimDiffers = IsSome best
Differs claim best _ = ⊥

-- the bytes spell a certificate whose claim fits the best solution, and this is the first fault of its list
pub record IsUnclosed (b : BoardView) (best : Option ℕ) (bytes : List ℕ) (fault : CertFault) : Type 0 where
  pub claim : Claim
  pub entries : List Entry
  pub spelled : SpellsCertificate bytes claim entries
  pub meets : Meets claim best
  pub refused : list.IsRefused b claim entries fault

-- bytes prove nothing of a level with this best solution: they are no certificate, its claim does not fit the best solution, or its list is not closed
abbrev pub IsNoProof : BoardView → Option ℕ → List ℕ → BookFault → Type 0
IsNoProof b best bytes (Certificate fault) = (fault ≢ cert.Memory) × (GoesWrong bytes fault ⊎ IsUnclosed b best bytes fault)
IsNoProof b best bytes fault = (claim : Claim) × (entries : List Entry) × SpellsCertificate bytes claim entries × Differs claim best fault

-- bytes prove nothing of a page, on the board of its level
abbrev pub IsUnproved : Page → List ℕ → BookFault → Type 0
IsUnproved page bytes fault = (b : BoardView) × (b.rows ≡ page.level) × IsAccepted b × IsNoProof b (best_pushes page) bytes fault

-- a verdict is not proved: there is no such level, or the bytes prove nothing of it
abbrev pub IsNotProved : Book → ℕ → List ℕ → BookFault → Type 0
IsNotProved book id bytes NoLevel = IsNone (page_at book id)
IsNotProved book id bytes fault = IsSomeAnd (page_at book id) (λ page. IsUnproved page bytes fault)

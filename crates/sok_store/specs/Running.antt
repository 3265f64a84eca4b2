-- What a command does with the book that a connection holds, however it ends.
use Rattle.std.specs.Prelude.{⊤, ℕ, ℤ, ◌≡◌, List, Option, Result, IfErr, IfOk, IsNone, OnErr, OnOk}
use Rattle.sqlite.specs.State.{State}
use Rattle.sok_rules.specs.declared.cell.Dir.{Dir}
use Rattle.sok_rules.specs.Squares.{Rows}
use Rattle.sok_board.specs.Refusals.{IsAcceptable}
use Rattle.sok_cert.specs.Claim.{Claim}
use Rattle.sok_book.specs.declared.fault.BookFault.{BookFault}
use Rattle.sok_book.specs.declared.fault.BookFault.TheVariants.{NoLevel}
use Rattle.sok_book.specs.declared.record.Offer.{Offer}
use Rattle.sok_book.specs.Books.{Book, Page, PageWithId, page_at}
use Rattle.sok_book.specs.Commands.{Adds, Offers, Proves, SetsVerdict}
use Rattle.sok_book.specs.Records.{IsRecordAt}
use Rattle.sok_book.specs.Refusals.{IsNotAdded, IsNotOffered, IsNotProved}
use Rattle.sok_store.specs.Faults.{IsOutside}
use Rattle.sok_store.specs.Calls.{FindsBook, IsCaused, KeepsBook, KeepsRefused, MakesNone, ShowsOn, Stops, StoresChange, id_number}
use Rattle.sok_store.specs.Verdicts.{IsNotSet}
use Rattle.sok_store.specs.Standing.{OffersTelling}
use Rattle.sok_store.specs.declared.standing.Standing.{Standing}
use Rattle.sok_store.specs.Changing.{AddsPage, IsCausedAdding, IsCausedSetting, IsFull, Sets, StopsAdding, StopsSetting}

-- the page with this id is read
pub record RunsReading (old new : State) (id : ℕ) (result : Result PageWithId BookFault) : Type 0 where
  pub found : IfOk result (λ kept. FindsBook old new (λ book. IsRecordAt book id kept))
  pub refused : IfErr result (KeepsRefused old new (λ book fault. (fault ≡ NoLevel) × IsNone (page_at book id)))
  pub shows : IfErr result (ShowsOn old new)
  pub stop : Stops old new MakesNone
  pub cause : IfErr result (IsCaused old new MakesNone)

-- the page with this id is replaced
pub record RunsSetting {X : Type 0} (old new : State) (id : ℕ) (Makes : Page → Page → Type 0) (result : Result X BookFault) : Type 0 where
  pub stored : OnOk result (Sets old new id Makes)
  pub kept : OnErr result (KeepsBook old new (λ _. ⊤))
  pub outside : IfErr result IsOutside
  pub stop : StopsSetting old new id Makes
  pub cause : IfErr result (IsCausedSetting old new id Makes)

-- a page with this text and this title is added
pub record RunsAddingPage (old new : State) (text : List ℕ) (title : Option (List ℕ)) (result : Result ℤ BookFault) : Type 0 where
  pub added : IfOk result (AddsPage old new text title)
  pub refused : IfErr result (KeepsRefused old new IsFull)
  pub stop : StopsAdding old new text title
  pub cause : IfErr result (IsCausedAdding old new text title)

-- A command that makes a book and returns an answer. If it is refused, the book stays. A stop in the middle leaves the book before, or one that it may make.
pub record Runs {X : Type 0} (old new : State) (Makes : X → Book → Book → Type 0) (MayMake : Book → Book → Type 0)
    (Refuses : Book → BookFault → Type 0) (result : Result X BookFault) : Type 0 where
  pub done : IfOk result (λ x. StoresChange old new (Makes x))
  pub refused : IfErr result (KeepsRefused old new Refuses)
  pub stop : Stops old new MayMake
  pub cause : IfErr result (IsCaused old new MayMake)

-- a level of which a board can be made is added, with a title if there is one
abbrev pub Admits : Rows → Option (List ℕ) → Book → Book → Type 0
Admits rows title book after = IsAcceptable rows × ((id : ℕ) × Adds book rows title id after)

-- a level is added, with a title if there is one
abbrev pub RunsAdding : State → State → Rows → Option (List ℕ) → Result ℤ BookFault → Type 0
RunsAdding old new rows title =
    Runs old new (λ id book after. Adds book rows title (id_number id) after) (Admits rows title)
    (λ book fault. IsNotAdded book rows fault)

-- letters are offered as a solution of the level with this id
abbrev pub RunsOffering : State → State → ℕ → List Dir → Result Offer BookFault → Type 0
RunsOffering old new id letters =
    Runs old new (λ answer book after. Offers book id letters answer after) (λ book after. (answer : Offer) × Offers book id letters answer after)
    (λ book fault. IsNotOffered book id letters fault)

-- the same, and the best solution's pushes and moves after that are returned
abbrev pub RunsTelling : State → State → ℕ → List Dir → Result Standing BookFault → Type 0
RunsTelling old new id letters =
    Runs old new (λ told book after. OffersTelling book id letters told after) (λ book after. (told : Standing) × OffersTelling book id letters told after)
    (λ book fault. IsNotOffered book id letters fault)

-- the verdict of the level with this id is proved by a certificate
abbrev pub RunsProving : State → State → ℕ → List ℕ → Result Claim BookFault → Type 0
RunsProving old new id bytes =
    Runs old new (λ shown book after. Proves book id bytes shown after) (λ book after. (shown : Claim) × Proves book id bytes shown after)
    (λ book fault. IsNotProved book id bytes fault)

-- the verdict is set by a claim that is known to be true
abbrev pub RunsVerdict : State → State → ℕ → Rows → Claim → Result (Unit {0}) BookFault → Type 0
RunsVerdict old new id rows claim =
    Runs old new (λ _ book after. SetsVerdict book id claim after) (λ book after. SetsVerdict book id claim after)
    (λ book fault. IsNotSet book id rows claim fault)

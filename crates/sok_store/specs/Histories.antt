-- What a list of calls, some of them refused, makes of the book that a connection holds.
use Rattle.std.specs.Prelude.{ℕ, ℤ, ◌≡◌, ◌⊎◌, List, [], Option, Result, IfErr, IfOk, IsNone, OnOk}
use Rattle.sqlite.specs.State.{State, HasCleanDisk}
use Rattle.sok_rules.specs.declared.cell.Dir.{Dir}
use Rattle.sok_rules.specs.Squares.{Rows}
use Rattle.sok_board.specs.Refusals.{IsAcceptable}
use Rattle.sok_cert.specs.Claim.{Claim}
use Rattle.sok_book.specs.declared.fault.BookFault.{BookFault}
use Rattle.sok_book.specs.declared.fault.BookFault.TheVariants.{NoLevel}
use Rattle.sok_book.specs.declared.record.Offer.{Offer}
use Rattle.sok_book.specs.Books.{Book, IsTrueBook, PageWithId, page_at}
use Rattle.sok_book.specs.Commands.{OneCommand}
use Rattle.sok_book.specs.Laws.{IsMade}
use Rattle.sok_book.specs.Records.{AreRecordsOf, IsRecordAt}
use Rattle.sok_store.specs.Faults.{IsOutside}
use Rattle.sok_store.specs.Rows.{HoldsBook}
use Rattle.sok_store.specs.Calls.{ChangesBook, FindsBook, KeepsBook, KeepsRefused, MakesNone, Stops}
use Rattle.sok_store.specs.Running.{RunsAdding, RunsVerdict, RunsOffering, RunsProving, RunsTelling}
use Rattle.sok_store.specs.declared.standing.Standing.{Standing}

-- a call is refused and keeps the book, or it is one command
pub record IsCall (old new : State) : Type 0 where
  pub clean : HasCleanDisk new → HasCleanDisk old
  pub turns : ChangesBook old new (λ book after. (after ≡ book) ⊎ OneCommand book after)

-- calls on connections, one after another
pub data AreCalls {C : Type 0} (shows : C → State) (old : C) : C → Type 0 where
  none : AreCalls shows old old
  more : (mid new : C) → AreCalls shows old mid → IsCall (shows mid) (shows new) → AreCalls shows old new

-- accepted commands, one after another, make the second book of the first
pub data IsMadeOf (book : Book) : Book → Type 0 where
  none : IsMadeOf book book
  more : (before after : Book) → IsMadeOf book before → OneCommand before after → IsMadeOf book after

-- by its contract, each of these is a call
abbrev pub AddsAreCalls : {C : Type 0} → (C → State) → Type 0
AddsAreCalls {C} shows =
    (old new : C) (rows : Rows) (title : Option (List ℕ)) (result : Result ℤ BookFault) → OnOk result (IsAcceptable rows)
    → RunsAdding (shows old) (shows new) rows title result → IsCall (shows old) (shows new)

abbrev pub OffersAreCalls : {C : Type 0} → (C → State) → Type 0
OffersAreCalls {C} shows =
    (old new : C) (id : ℕ) (letters : List Dir) (result : Result Offer BookFault) → RunsOffering (shows old) (shows new) id letters result
    → IsCall (shows old) (shows new)

abbrev pub TellingsAreCalls : {C : Type 0} → (C → State) → Type 0
TellingsAreCalls {C} shows =
    (old new : C) (id : ℕ) (letters : List Dir) (result : Result Standing BookFault) → RunsTelling (shows old) (shows new) id letters result
    → IsCall (shows old) (shows new)

abbrev pub ProofsAreCalls : {C : Type 0} → (C → State) → Type 0
ProofsAreCalls {C} shows =
    (old new : C) (id : ℕ) (bytes : List ℕ) (result : Result Claim BookFault) → RunsProving (shows old) (shows new) id bytes result
    → IsCall (shows old) (shows new)

abbrev pub VerdictsAreCalls : {C : Type 0} → (C → State) → Type 0
VerdictsAreCalls {C} shows =
    (old new : C) (id : ℕ) (rows : Rows) (claim : Claim) (result : Result (Unit {0}) BookFault) → RunsVerdict (shows old) (shows new) id rows claim result
    → IsCall (shows old) (shows new)

-- and so is one that reads: it keeps the book
abbrev pub GetsAreCalls : {C : Type 0} → (C → State) → Type 0
GetsAreCalls {C} shows =
    (old new : C) (id : ℕ) (result : Result PageWithId BookFault) → IfOk result (λ kept. FindsBook (shows old) (shows new) (λ book. IsRecordAt book id kept))
    → IfErr result (KeepsRefused (shows old) (shows new) (λ book fault. (fault ≡ NoLevel) × IsNone (page_at book id)))
    → Stops (shows old) (shows new) MakesNone → IsCall (shows old) (shows new)

abbrev pub ListsAreCalls : {C : Type 0} → (C → State) → Type 0
ListsAreCalls {C} shows =
    (old new : C) (result : Result (List PageWithId) BookFault) → IfOk result (λ pages. FindsBook (shows old) (shows new) (λ book. AreRecordsOf book pages))
    → IfErr result (λ fault. KeepsBook (shows old) (shows new) (λ _. IsOutside fault)) → Stops (shows old) (shows new) MakesNone
    → IsCall (shows old) (shows new)

-- after calls the connection holds what the accepted ones made of the book before; if that book was true, so is this one
abbrev pub CallsFold : {C : Type 0} → (C → State) → Type 0
CallsFold {C} shows =
    (old new : C) → AreCalls shows old new → HasCleanDisk (shows new) → (book : Book) → HoldsBook (shows old) book
    → (after : Book) × IsMadeOf book after × HoldsBook (shows new) after × (IsTrueBook book → IsTrueBook after)

-- what accepted commands make of the empty book is a book that commands made
abbrev pub EmptyBooksAreMade : Type 0
EmptyBooksAreMade = (after : Book) → IsMadeOf [] after → IsMade after

-- What a call does to the book that a connection holds.
use Rattle.std.specs.Prelude.{ℕ, ℤ, pos, negsuc, ◌≡◌, ◌+◌, ◌⊎◌, List, Option, Some, None, IsTrue, slice_get}
use Rattle.sqlite.specs.State.{State, HasCleanDisk, Survives}
use Rattle.sok_book.specs.declared.fault.BookFault.{BookFault}
use Rattle.sok_book.specs.declared.fault.BookFault.TheVariants.{Database}
use Rattle.sok_book.specs.Books.{Book}
use Rattle.sok_book.specs.Titles.{kept_title}
use Rattle.sok_sql.specs.Causes.{HasCause, IsTooBig}
use Rattle.sok_sql.specs.Connections.{StaysOpen}
use Rattle.sok_sql.specs.Leaves.{Leaf}
use Rattle.sok_store.specs.Faults.{IsOutside}
use Rattle.sok_store.specs.Rows.{HasBook, HoldsBook, ShowsBook, StoresBook, leaves_of}

-- an id as a natural number; a negative id becomes 0, which is the id of no page
abbrev pub id_number : ℤ → ℕ
id_number (pos n) = n
id_number (negsuc n) = 0

-- the title that is kept, if one is given
abbrev pub kept_if_given : Option (List ℕ) → Option (List ℕ)
kept_if_given None = None
kept_if_given (Some title) = kept_title title

-- the connection still holds the book that it held before, and this is true of the book
abbrev pub KeepsBook : State → State → (Book → Type 0) → Type 0
KeepsBook old new P = HasCleanDisk new → (book : Book) → HoldsBook old book → P book × HoldsBook new book

-- the same, and the fault has an outside cause, or the command is refused on this book
abbrev pub KeepsRefused : State → State → (Book → BookFault → Type 0) → BookFault → Type 0
KeepsRefused old new Refuses fault = KeepsBook old new (λ book. IsOutside fault ⊎ Refuses book fault)

-- the connection is open and still shows the book that it held before, and this is true of the book
abbrev pub FindsBook : State → State → (Book → Type 0) → Type 0
FindsBook old new P = HasCleanDisk new → (book : Book) → HoldsBook old book → P book × StoresBook new book

-- the connection is open and shows a book that is made in this way of the one that it held before
abbrev pub StoresChange : State → State → (Book → Book → Type 0) → Type 0
StoresChange old new Makes = HasCleanDisk new → (book : Book) → HoldsBook old book → (after : Book) × Makes book after × StoresBook new after

-- the connection holds a book that is made in this way of the one that it held before
abbrev pub ChangesBook : State → State → (Book → Book → Type 0) → Type 0
ChangesBook old new Makes = HasCleanDisk new → (book : Book) → HoldsBook old book → (after : Book) × Makes book after × HoldsBook new after

-- if the connection showed a book, it shows one that is made of it in this way, and it was not shut
abbrev pub Carries : State → State → (Book → Book → Type 0) → Type 0
Carries old new Makes =
    HasCleanDisk new → (book : Book) → ShowsBook old book → (after : Book) × Makes book after × ShowsBook new after × StaysOpen old new

-- the call does not shut a connection that holds a book
abbrev pub KeepsOpen : State → State → Type 0
KeepsOpen old new = HasCleanDisk new → (book : Book) → HoldsBook old book → StaysOpen old new

-- after a successful call the connection is open, so it shows what it holds
abbrev pub EndsOpen : State → State → Type 0
EndsOpen old new = HasCleanDisk new → (book : Book) → HoldsBook old book → IsTrue new.is_open

-- the connection still shows what it showed, or the fault has an outside cause
abbrev pub ShowsOn : State → State → BookFault → Type 0
ShowsOn old new fault = IsOutside fault ⊎ Carries old new (λ book after. after ≡ book)

-- a stop in the middle of the call leaves the book from before it, or one that is made of it in this way
abbrev pub Stops : State → State → (Book → Book → Type 0) → Type 0
Stops old new Makes = Survives old new (λ db. (book : Book) → ShowsBook old book → (after : Book) × Makes book after × HasBook db after)

-- the call makes no other book
abbrev pub MakesNone : Book → Book → Type 0
MakesNone book after = ⊥

-- a row of the book is too big to be stored
abbrev pub HasTooBig : Book → Type 0
HasTooBig book = (n : ℕ) × (leaf : Leaf) × (slice_get (leaves_of book) n ≡ Some leaf) × IsTooBig (1 + n) leaf

-- the fault is `Database` only if the connection gave a cause, or if a book that the call would make has a row that is too big
abbrev pub IsCaused : State → State → (Book → Book → Type 0) → BookFault → Type 0
IsCaused old new Makes fault =
    fault ≡ Database → HasCleanDisk new → (book : Book) → HoldsBook old book → ((after : Book) × Makes book after × HasTooBig after) ⊎ HasCause old new

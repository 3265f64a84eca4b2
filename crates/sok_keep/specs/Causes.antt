-- How a call on a book treats the connection.
use Rattle.std.specs.Prelude.{◌≡◌, IfErr, OnOk, Result}
use Rattle.sqlite.specs.State.{State}
use Rattle.sok_book.specs.declared.fault.BookFault.TheVariants as refusal
use Rattle.sok_book.specs.Books.{Book}
use Rattle.sok_engine.specs.declared.fault.ToolFault.{ToolFault}
use Rattle.sok_engine.specs.declared.fault.ToolFault.TheVariants as tool
use Rattle.sok_store.specs.Calls.{Carries, ChangesBook, IsCaused, KeepsOpen, Stops}

-- the fault is `Database` only if the connection gave a cause, or if a book that the call would make has a row that is too big
abbrev pub IsCausedFault : State → State → (Book → Book → Type 0) → ToolFault → Type 0
IsCausedFault old new Makes fault = fault ≡ tool.Book refusal.Database → IsCaused old new Makes refusal.Database

-- how a call that makes these books treats the connection: what it shows after success, what a stop in the middle leaves, and why it fails
pub record Treats {T : Type 0} (old new : State) (Makes : Book → Book → Type 0) (result : Result T ToolFault) : Type 0 where
  pub done : OnOk result (Carries old new Makes)
  pub stop : Stops old new Makes
  pub cause : IfErr result (IsCausedFault old new Makes)

-- how a call ends that takes the contents of a file into a book: what it makes of the book, that it keeps the connection open, what a stop in the middle
-- leaves, and why it fails
pub record TakesIn {T : Type 0} (old new : State) (Makes MayMake : Book → Book → Type 0) (result : Result T ToolFault) : Type 0 where
  pub writes : ChangesBook old new Makes
  pub keeps_open : OnOk result (KeepsOpen old new)
  pub stop : Stops old new MayMake
  pub cause : IfErr result (IsCausedFault old new MayMake)

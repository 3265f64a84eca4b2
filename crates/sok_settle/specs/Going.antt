-- Steps on a book, each with a line, and how a call that goes through them ends. The proof's own: what it leaves of the connection.
use Rattle.std.specs.Prelude.{ℕ, ◌≡◌, ◌⊎◌, ◌+◌, ◌<◌, ◌&&◌, List, [], ◌++◌, Option, Bool, true, Result, Ok, Err, IfErr, OnOk, length, take}
use Rattle.std.specs.Io.KnownBytes.{Appends, Keeps}
use Rattle.sqlite.specs.State.{State}
use Rattle.sok_book.specs.declared.fault.BookFault.TheVariants as refusal
use Rattle.sok_book.specs.Books.{Book}
use Rattle.sok_engine.specs.declared.fault.ToolFault.{ToolFault}
use Rattle.sok_engine.specs.declared.fault.ToolFault.TheVariants as tool
use Rattle.sok_engine.specs.Written.{AppendsFront}
use Rattle.sok_store.specs.Calls.{Carries, ChangesBook, Stops}
use Rattle.sok_keep.specs.Causes.{IsCausedFault}

-- a step from a book, with its line, well done or not, to a book
abbrev pub Step : Type 1
Step = Book → List ℕ → Bool → Book → Type 0

-- how a call may end at a step, with nothing of its line written: what it leaves of the book before it, unless a write failed; and of which books one may
-- fail, which are left as they were
pub record Leave : Type 1 where
  pub leaves : Book → Book → Type 0
  pub unwritten : Book → Type 0

-- the first so many steps were done, with these lines; and whether each of them is well done
pub data GoesFirst (StepAt : ℕ → Step) (book : Book) : ℕ → List ℕ → Bool → Book → Type 0 where
  none : GoesFirst StepAt book 0 [] true book
  more : (n : ℕ) (text line : List ℕ) (all well : Bool) (before after : Book) → GoesFirst StepAt book n text all before
      → StepAt n before line well after → GoesFirst StepAt book (n + 1) (text ++ line) (all && well) after

-- some of the first steps were done, or none, and then the call ended
abbrev pub GoesSome : (ℕ → Step) → (ℕ → Leave) → Book → Book → Type 0
GoesSome StepAt LeaveAt book after =
    (n : ℕ) × (text : List ℕ) × (all : Bool) × (before : Book) × GoesFirst StepAt book n text all before × (LeaveAt n).leaves before after

-- a front of the line of one more step was written, and not all of it
abbrev pub BreaksOff : List ℕ → List ℕ → Option (List ℕ) → Option (List ℕ) → Type 0
BreaksOff text line old new = (n : ℕ) × (n < length line) × Appends old new (text ++ take n line)

-- How a call ends at a step, after the lines before it: a write failed, in its line or before it; or memory or the database was refused.
abbrev pub EndsAt : Step → Leave → List ℕ → Book → Book → Option (List ℕ) → Option (List ℕ) → ToolFault → Type 0
EndsAt One Left text before after old new tool.WriteFailed =
    ((line : List ℕ) × (well : Bool) × One before line well after × BreaksOff text line old new)
    ⊎ (Left.unwritten before × (after ≡ before) × Appends old new text)
EndsAt One Left text before after old new tool.Memory = Left.leaves before after × Appends old new text
EndsAt One Left text before after old new (tool.Book refusal.Database) = Left.leaves before after × Appends old new text
EndsAt One Left text before after old new fault = ⊥

-- the first steps were done, and then the call ended
pub record GoesUntil (StepAt : ℕ → Step) (Ends : ℕ → List ℕ → Bool → Book → Type 0) (book : Book) : Type 0 where
  pub count : ℕ
  pub text : List ℕ
  pub all : Bool
  pub before : Book
  pub gone : GoesFirst StepAt book count text all before
  pub ended : Ends count text all before

-- ---- one step

-- it was done, and its line was written, or a front of it; or the call ends at it, with nothing written
abbrev pub StepsOnce : Step → Leave → Book → Book → Option (List ℕ) → Option (List ℕ) → Result Bool ToolFault → Type 0
StepsOnce One Left book after old new (Ok well) = (line : List ℕ) × One book line well after × Appends old new line
StepsOnce One Left book after old new (Err tool.WriteFailed) =
    ((line : List ℕ) × (well : Bool) × One book line well after × AppendsFront old new line)
    ⊎ (Left.unwritten book × (after ≡ book) × Keeps old new)
StepsOnce One Left book after old new (Err tool.Memory) = Left.leaves book after × Keeps old new
StepsOnce One Left book after old new (Err (tool.Book refusal.Database)) = Left.leaves book after × Keeps old new
StepsOnce One Left book after old new (Err fault) = ⊥

-- what may become of the book meanwhile
abbrev pub MayStep : Step → Leave → Book → Book → Type 0
MayStep One Left book after = Left.leaves book after ⊎ ((line : List ℕ) × (well : Bool) × One book line well after)

-- ---- the connection

-- how a call that makes such books treats it: what it holds then, what it shows where the call was done, what a stop in the middle leaves, and why it fails
pub record Goes {X : Type 0} (old new : State) (Makes MayMake : Book → Book → Type 0) (result : Result X ToolFault) : Type 0 where
  pub turns : ChangesBook old new Makes
  pub done : OnOk result (Carries old new Makes)
  pub stop : Stops old new MayMake
  pub cause : IfErr result (IsCausedFault old new MayMake)

-- the same of the books of which something is true
abbrev pub GoesWhere : {X : Type 0} → (Book → Type 0) → State → State → (Book → Book → Type 0) → (Book → Book → Type 0) → Result X ToolFault → Type 0
GoesWhere P old new Makes MayMake = Goes old new (λ book after. P book → Makes book after) (λ book after. P book → MayMake book after)

abbrev pub IsAnyBook : Book → Type 0
IsAnyBook book = Unit {0}

-- what a call leaves that does one step
abbrev pub GoesStep : (Book → Type 0) → Step → Leave → State → State → Option (List ℕ) → Option (List ℕ) → Result Bool ToolFault → Type 0
GoesStep P One Left old new here later result =
    GoesWhere {X = Bool} P old new (λ book after. StepsOnce One Left book after here later result) (MayStep One Left) result

-- the first steps were done, and their lines were written
pub record HasGone (StepAt : ℕ → Step) (n : ℕ) (all : Bool) (book after : Book) (old new : Option (List ℕ)) : Type 0 where
  pub text : List ℕ
  pub gone : GoesFirst StepAt book n text all after
  pub written : Appends old new text

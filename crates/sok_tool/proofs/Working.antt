-- How a command on a book ends.
use Rattle.std.proofs.Common.{ℕ, ◌≡◌, ◌∙◌, inl, inr, List, Option, Result, Ok, Err, IfErr, IsErrAnd, ap, arith, refl, subst}
use Rattle.std.proofs.KnownBytes.{Keeps-refl}
use Rattle.std.proofs.lemmas.Result.{err_from_is_err_and}
use Rattle.sqlite.specs.State.{State}
use Rattle.sok_book.specs.Books.{Book}
use Rattle.sok_engine.specs.declared.fault.ToolFault.{ToolFault}
use Rattle.sok_engine.specs.Certified.{Bytes}
use Rattle.sok_store.specs.Calls.{ChangesBook, KeepsBook, Stops}
use Rattle.sok_store.proofs.Calls.{stops_less}
use Rattle.sok_keep.specs.Causes.{IsCausedFault}
use Rattle.sok_tool.specs.Databases.{IsNeverLacking, IsTold, IsWithoutBook, OfOpened, OpensFound, Place, WorksOn, bookless, busy, fileless, refused, unconnected, unread, worked}

-- a command that names nothing beside its database lacks nothing
pub fileless_too : (db : Place) (Lacks : ToolFault → Type 0) (told : ToolFault) → IsWithoutBook db IsNeverLacking told → IsWithoutBook db Lacks told
fileless_too db Lacks told (unread memory) = unread memory
fileless_too db Lacks told (unconnected says why) = unconnected says why
fileless_too db Lacks told (busy found kept left inside why) = busy found kept left inside why
fileless_too db Lacks told (bookless found left kept given why) = bookless found left kept given why
fileless_too db Lacks told (fileless none opened found given) = absurd none

-- a book is given back where what is named beside it is missing
pub without_file : (db : Place) (Lacks : ToolFault → Type 0) (told : ToolFault) → Lacks told → (opened given : db.Connection) → OpensFound db opened → given ≡ opened
    → db.closes_as given → IsWithoutBook db Lacks told
without_file db Lacks told lacks opened given found same back = fileless lacks opened found (subst db.closes_as same back)

module _ (db : Place) (Lacks : ToolFault → Type 0) (MayMake : Book → Book → Type 0) where
  -- where there is no book nothing is written
  pub without_book : (Makes : Result ℕ ToolFault → Book → Book → Type 0) (held : Option (List ℕ)) (fault : ToolFault) (result : Result ℕ ToolFault)
      → IsErrAnd result (λ told. told ≡ fault) → IsWithoutBook db Lacks fault → WorksOn db Lacks MayMake Makes (record { old = held; new = held }) result
  without_book Makes held fault result is none =
      let (told, errs, same) = err_from_is_err_and result is in
      refused fault none (errs ∙ ap Err same) (Keeps-refl held)

  -- and where there is one, its connection is given back
  pub works : (Makes : Result ℕ ToolFault → Book → Book → Type 0) (out : Bytes) (ended result : Result ℕ ToolFault) → IsTold db.moves ended result
      → (opened left given : db.Connection) → OpensFound db opened → given ≡ left → db.closes_as given
      → ChangesBook (db.shows opened) (db.shows left) (Makes ended) → Stops (db.shows opened) (db.shows left) MayMake
      → IfErr ended (IsCausedFault (db.shows opened) (db.shows left) MayMake) → WorksOn db Lacks MayMake Makes out result
  works Makes out ended result told opened left given (found, kept, opens) same back turns stop cause =
      worked ended found opened left told kept (subst db.closes_as same back) (λ is. opens (omega (arith, is, stop.clean))) turns stop cause

-- what is made of a book is also something else
pub ChangesBook-weaker : (old new : State) (P Q : Book → Book → Type 0) → ((book after : Book) → P book after → Q book after) → ChangesBook old new P → ChangesBook old new Q
ChangesBook-weaker old new P Q weaker turns clean book holds =
    let (after, made, held) = turns clean book holds in (after, weaker book after made, held)

-- and the cause of a fault that of more
pub caused_weaker : (old new : State) (P Q : Book → Book → Type 0) → ((book after : Book) → P book after → Q book after) → (result : Result ℕ ToolFault)
    → IfErr result (IsCausedFault old new P) → IfErr result (IsCausedFault old new Q)
caused_weaker old new P Q weaker (Ok status) caused = tt
caused_weaker old new P Q weaker (Err fault) caused = λ told same clean book holds. elim (caused told same clean book holds) [
  | inl (after, made, big) ↦ inl (after, weaker book after made, big)
  | inr why ↦ inr why
]

-- a book that is kept is made of itself
pub KeepsBook-changes : (old new : State) (P : Book → Type 0) → KeepsBook old new P → ChangesBook old new (λ book after. (after ≡ book) × P book)
KeepsBook-changes old new P keeps clean book holds = let (is, held) = keeps clean book holds in (book, (refl, is), held)

module _ (db : Place) (Lacks : ToolFault → Type 0) (reads : Option (List ℕ) → Type 0) (known : Option (List ℕ)) (is : reads known) where
  -- what is made of the book and of what a file has left is made of such a file
  pub works_with_file : (MayMake : Option (List ℕ) → Book → Book → Type 0) (Makes : Option (List ℕ) → Result ℕ ToolFault → Book → Book → Type 0) (out : Bytes)
      (ended result : Result ℕ ToolFault) → IsTold db.moves ended result → (opened left given : db.Connection)
      → OpensFound db opened → given ≡ left → db.closes_as given → ChangesBook (db.shows opened) (db.shows left) (Makes known ended)
      → Stops (db.shows opened) (db.shows left) (MayMake known) → IfErr ended (IsCausedFault (db.shows opened) (db.shows left) (MayMake known))
      → WorksOn db Lacks (λ book after. OfOpened reads (λ k. MayMake k book after)) (λ e book after. OfOpened reads (λ k. Makes k e book after)) out result
  works_with_file MayMake Makes out ended result told opened left given opens same back turns stop cause =
      works db Lacks (λ book after. OfOpened reads (λ k. MayMake k book after)) (λ e book after. OfOpened reads (λ k. Makes k e book after)) out ended result told
      opened left given opens same back (ChangesBook-weaker (db.shows opened) (db.shows left) (Makes known ended) _ (λ book after made. (known, is, made)) turns)
      (stops_less (db.shows opened) (db.shows left) (MayMake known) _ (λ book after made. (known, is, made)) stop)
      (caused_weaker (db.shows opened) (db.shows left) (MayMake known) _ (λ book after made. (known, is, made)) ended cause)

-- How a call ends that has no answer.
use Rattle.std.proofs.Common.{ℕ, ◌≡◌, ◌≢◌, ◌⊎◌, ◌∙◌, inl, inr, sym, List, Option, Result, Ok, Err, IfErr, IfOk, OnOk}
use Rattle.sqlite.specs.State.{State}
use Rattle.std.proofs.KnownBytes.{Keeps-refl}
use Rattle.sok_text.specs.declared.lurd.LurdFault.{LurdFault}
use Rattle.sok_text.specs.declared.lurd.LurdFault.TheVariants as lurd
use Rattle.sok_book.specs.declared.fault.BookFault.{BookFault}
use Rattle.sok_book.specs.declared.fault.BookFault.TheVariants as refusal
use Rattle.sok_book.specs.Books.{Book}
use Rattle.sok_engine.specs.declared.fault.ToolFault.{ToolFault}
use Rattle.sok_engine.specs.declared.fault.ToolFault.TheVariants as tool
use Rattle.sok_engine.specs.declared.input.InputFault.{InputFault}
use Rattle.sok_engine.specs.declared.input.InputFault.TheVariants as input
use Rattle.sok_engine.specs.Faults.{of_book, of_input, of_lurd}
use Rattle.sok_engine.specs.Written.{Answer, Answers, AnswersOf, IsFaultOf, Writes, WritesOne}
use Rattle.sok_engine.proofs.Answering.{EndsBy-fault}
use Rattle.sok_store.specs.Calls.{ChangesBook, EndsOpen, IsCaused, StoresChange}
use Rattle.sok_store.proofs.Calls.{stops_same}
use Rattle.sok_keep.specs.Causes.{IsCausedFault, TakesIn}
use Rattle.sok_keep.specs.Offers.{StaysOnFault}

-- a fault of a book is one of the answers, where it is answered
pub book_fault : {A : Type 0} (P : AnswersOf A) (fault : BookFault) → P (Err (of_book fault)) → IsFaultOf P (of_book fault)
book_fault P refusal.Memory is = tt
book_fault P fault is = is

-- and so is a fault of a text
pub lurd_fault : {A : Type 0} (P : AnswersOf A) (fault : LurdFault) → P (Err (of_lurd fault)) → IsFaultOf P (of_lurd fault)
lurd_fault P lurd.Memory is = tt
lurd_fault P fault is = is

-- a write that fails is the only fault after a command
pub stays_written : (answer : Answer) (old new : Option (List ℕ)) (result : Result ℕ ToolFault) (book after : Book) → WritesOne answer old new result
    → StaysOnFault book after result
stays_written answer old new (Ok status) book after written = tt
stays_written answer old new (Err fault) book after written = inl written.0

-- nothing is written, and the book stays
pub ends_unwritten : (P : Answers) (held : Option (List ℕ)) (fault : ToolFault) → IsFaultOf P fault → Writes P held held (Err fault)
ends_unwritten P held fault is = EndsBy-fault P held held fault is (Keeps-refl held)

-- a command that was done leaves the connection open
pub changes_open : (old new : State) (Makes : Book → Book → Type 0) → StoresChange old new Makes → EndsOpen old new
changes_open old new Makes changes clean book holds = (changes clean book holds).2.1.0

pub done_open : (old new : State) (Makes : Book → Book → Type 0) (result : Result ℕ ToolFault) → StoresChange old new Makes → OnOk result (EndsOpen old new)
done_open old new Makes (Ok status) changes = changes_open old new Makes changes
done_open old new Makes (Err fault) changes = tt

-- so it is where the answer of such a command was written
pub written_open : (answer : Answer) (old new : Option (List ℕ)) (result : Result ℕ ToolFault) (P : Type 0) → WritesOne answer old new result
    → (answer.status ≡ 0 → P) → IfOk result (λ status. status ≡ 0 → P)
written_open answer old new (Ok status) P written opens = λ zero. opens (sym written.0 ∙ zero)
written_open answer old new (Err fault) P written opens = tt

-- ---- why `Database` is told

-- only a book tells it
pub book_database : (fault : BookFault) → of_book fault ≡ tool.Book refusal.Database → fault ≡ refusal.Database
book_database refusal.Memory is = cc
book_database fault is = cc

pub lurd_database : (fault : LurdFault) → of_lurd fault ≡ tool.Book refusal.Database → ⊥
lurd_database lurd.Memory is = let no : ⊥ = cc in no
lurd_database fault is = let no : ⊥ = cc in no

pub input_database : (fault : InputFault) → of_input fault ≡ tool.Book refusal.Database → ⊥
input_database input.Memory is = let no : ⊥ = cc in no
input_database fault is = let no : ⊥ = cc in no

module _ (old new : State) (More : Book → Book → Type 0) where
  -- the cause of a call is that of the command
  pub caused_more : (Makes : Book → Book → Type 0) → ((book after : Book) → Makes book after → More book after) → (fault : BookFault)
      → IsCaused old new Makes fault → IsCausedFault old new More (of_book fault)
  caused_more Makes so fault caused told database clean book holds = elim (caused (book_database fault told) clean book holds) [
    | inl (after, made, big) ↦ inl (after, so book after made, big)
    | inr why ↦ inr why
  ]

  -- a write that fails is no such fault
  pub unwritten_caused : (fault : ToolFault) → fault ≡ tool.WriteFailed → IsCausedFault old new More fault
  unwritten_caused fault unwritten = λ told. let no : tool.WriteFailed ≡ tool.Book refusal.Database = sym unwritten ∙ told in absurd cc

  pub written_caused : (answer : Answer) (held later : Option (List ℕ)) (result : Result ℕ ToolFault) → WritesOne answer held later result
      → IfErr result (IsCausedFault old new More)
  written_caused answer held later (Ok status) written = tt
  written_caused answer held later (Err fault) written = unwritten_caused fault written.0

  -- where what is told is of the book, or memory was refused
  pub unproved_caused : (fault : BookFault) (told : ToolFault) → (told ≡ tool.Memory) ⊎ (told ≡ of_book fault) → IsCausedFault old new More (of_book fault)
      → IsCausedFault old new More told
  unproved_caused fault told (inl memory) caused = λ is. let no : tool.Memory ≡ tool.Book refusal.Database = sym memory ∙ is in absurd cc
  unproved_caused fault told (inr same) caused = λ is. caused (sym same ∙ is)

-- a file that is not read changes nothing
pub unread_takes : {T : Type 0} (s : State) (Makes MayMake : Book → Book → Type 0) (fault : InputFault) → ChangesBook s s Makes
    → TakesIn {T = T} s s Makes MayMake (Err (of_input fault))
unread_takes s Makes MayMake fault turns =
    record { writes = turns; keeps_open = tt; stop = stops_same s MayMake; cause = λ told. absurd (input_database fault told) }

-- ---- calls that read nothing

pub book_unread : (fault : BookFault) → of_book fault ≢ tool.ReadFailed
book_unread refusal.Memory is = let no : ⊥ = cc in no
book_unread fault is = let no : ⊥ = cc in no

pub lurd_unread : (fault : LurdFault) → of_lurd fault ≢ tool.ReadFailed
lurd_unread lurd.Memory is = let no : ⊥ = cc in no
lurd_unread fault is = let no : ⊥ = cc in no

pub written_unread : (answer : Answer) (held later : Option (List ℕ)) (result : Result ℕ ToolFault) → WritesOne answer held later result
    → IfErr result (λ fault. fault ≢ tool.ReadFailed)
written_unread answer held later (Ok status) written = tt
written_unread answer held later (Err fault) written = λ is. let no : tool.WriteFailed ≡ tool.ReadFailed = sym written.0 ∙ is in absurd cc

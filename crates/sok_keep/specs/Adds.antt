-- The lines for the levels of a collection as they are added to a book, one after another, and the book after that.
use Rattle.std.specs.Prelude.{ℕ, ℤ, ◌≡◌, ◌<◌, ◌≤◌, ◌⊎◌, ◌+◌, List, [], ◌++◌, Option, Result, Ok, Err, IfSome, codes, length}
use Rattle.std.specs.Fmt.{decimal, signed_decimal}
use Rattle.std.specs.Io.KnownBytes.{Appends, Keeps}
use Rattle.sok_rules.specs.declared.fault.LevelFault.{LevelFault}
use Rattle.sok_rules.specs.Squares.{Rows}
use Rattle.sok_text.specs.Collections.{Block, blocks_of, level_at}
use Rattle.sok_text.specs.Titles.{title_at}
use Rattle.sok_board.specs.declared.fault.BoardFault.{BoardFault}
use Rattle.sok_board.specs.Refusals.{IsAcceptable}
use Rattle.sok_book.specs.declared.fault.BookFault.TheVariants as refusal
use Rattle.sok_book.specs.Books.{Book}
use Rattle.sok_book.specs.Commands.{Adds}
use Rattle.sok_book.specs.Refusals.{IsNotAdded}
use Rattle.sok_engine.specs.declared.fault.ToolFault.{ToolFault}
use Rattle.sok_engine.specs.declared.fault.ToolFault.TheVariants as tool
use Rattle.sok_engine.specs.FaultLines.{fault_words}
use Rattle.sok_engine.specs.Faults.{of_board, of_level}
use Rattle.sok_engine.specs.Limits.{input_limit}
use Rattle.sok_engine.specs.Written.{AppendsFront}
use Rattle.sok_store.specs.Calls.{id_number, kept_if_given}

-- the number of a level in its collection, and its id in the book
abbrev pub id_line : ℕ → ℤ → List ℕ
id_line n id = decimal n ++ (codes " id " ++ (signed_decimal id ++ codes "\n"))

-- the number of a level in its collection, and its fault
abbrev pub fault_line : ℕ → ToolFault → List ℕ
fault_line n fault = decimal n ++ (codes " " ++ (fault_words fault ++ codes "\n"))

-- A level of a collection, with its number, is added to a book, and this is its line. A level that has a fault, or no board, changes nothing.
pub data AddsLevel (n : ℕ) (level : Result Rows LevelFault) (title : Option (List ℕ)) (book : Book) (line : List ℕ) (after : Book) : Type 0 where
  faulty : (fault : LevelFault) → level ≡ Err fault → line ≡ fault_line n (of_level fault) → after ≡ book → AddsLevel n level title book line after
  unaccepted : (rows : Rows) (fault : BoardFault) → level ≡ Ok rows → IsNotAdded book rows (refusal.Level fault) → line ≡ fault_line n (of_board fault) → after ≡ book
      → AddsLevel n level title book line after
  added : (rows : Rows) (id : ℤ) → level ≡ Ok rows → IsAcceptable rows → Adds book rows (kept_if_given title) (id_number id) after → line ≡ id_line n id
      → AddsLevel n level title book line after

-- the first levels of a collection have been added one after another, and these are their lines
pub data AddsFirst (blocks : List Block) (book : Book) : ℕ → List ℕ → Book → Type 0 where
  none : AddsFirst blocks book 0 [] book
  more : (n : ℕ) (text line : List ℕ) (before after : Book) → AddsFirst blocks book n text before → n < length blocks
      → AddsLevel (n + 1) (level_at blocks (n + 1)) (title_at blocks (n + 1)) before line after → AddsFirst blocks book (n + 1) (text ++ line) after

-- this many of the first levels have been added
abbrev pub AddsCount : List Block → ℕ → Book → Book → Type 0
AddsCount blocks n book after = (text : List ℕ) × AddsFirst blocks book n text after

-- some number of the first levels, or none, have been added from the collection that is left in a reader
abbrev pub AddsBytes : Option (List ℕ) → Book → Book → Type 0
AddsBytes known book after = (bytes : List ℕ) × IfSome known (λ all. bytes ≡ all) × (n : ℕ) × AddsCount (blocks_of bytes) n book after

-- the n-th level is not in the book yet, and the book is full
abbrev pub IsFullAt : List Block → ℕ → Book → Type 0
IsFullAt blocks n book = (rows : Rows) × (level_at blocks n ≡ Ok rows) × IsNotAdded book rows refusal.BookFull

-- why the next level is not added: memory or the database refused, or the book is full
abbrev pub IsStopAt : List Block → ℕ → Book → ToolFault → Type 0
IsStopAt blocks n book tool.Memory = Unit {0}
IsStopAt blocks n book (tool.Book refusal.Database) = Unit {0}
IsStopAt blocks n book (tool.Book refusal.BookFull) = IsFullAt blocks n book
IsStopAt blocks n book fault = ⊥

-- all levels were added, or the next one is not
abbrev pub IsEndAt : List Block → ℕ → Book → Type 0
IsEndAt blocks n book = (n ≡ length blocks) ⊎ ((fault : ToolFault) × IsStopAt blocks (n + 1) book fault)

-- How the addition ends after this many levels, with these lines. All levels were added; or no level was read; or the next level is new and the book is full;
-- or the database or memory refused. In each case the lines were written; or a write failed after a first part of them.
abbrev pub EndsAdding : List ℕ → ℕ → List ℕ → Book → Option (List ℕ) → Option (List ℕ) → Result ℕ ToolFault → Type 0
EndsAdding bytes n text after old new (Ok status) = (length bytes ≤ input_limit) × (n ≡ length (blocks_of bytes)) × (status ≡ 0) × Appends old new text
EndsAdding bytes n text after old new (Err tool.WriteFailed) =
    (length bytes ≤ input_limit) × IsEndAt (blocks_of bytes) n after × AppendsFront old new text
EndsAdding bytes n text after old new (Err tool.ReadFailed) = (n ≡ 0) × Keeps old new
EndsAdding bytes n text after old new (Err tool.TooMuch) = (n ≡ 0) × (input_limit < length bytes) × Keeps old new
EndsAdding bytes n text after old new (Err (tool.Book refusal.BookFull)) = (length bytes ≤ input_limit) × IsFullAt (blocks_of bytes) (n + 1) after × Appends old new text
EndsAdding bytes n text after old new (Err (tool.Book refusal.Database)) = Appends old new text
EndsAdding bytes n text after old new (Err tool.Memory) = Appends old new text
EndsAdding bytes n text after old new (Err fault) = ⊥

-- The first levels of the collection that is left in a reader were added to the book, and how the call ended then. If it is not known what is left, this holds
-- for some collection.
pub record WritesAdding (book : Book) (known : Option (List ℕ)) (after : Book) (old new : Option (List ℕ)) (result : Result ℕ ToolFault) : Type 0 where
  pub bytes : List ℕ
  pub told : IfSome known (λ all. bytes ≡ all)
  pub count : ℕ
  pub text : List ℕ
  pub added : AddsFirst (blocks_of bytes) book count text after
  pub ended : EndsAdding bytes count text after old new result

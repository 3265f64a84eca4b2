-- The answers to lines of offers, line by line, and what becomes of the book.
use Rattle.std.specs.Prelude.{ℕ, ℤ, pos, ◌≡◌, ◌≢◌, ◌<◌, ◌≤◌, ◌&&◌, List, ◌++◌, Option, Bool, true, false, not, Result, Ok, Err, IfSome, IsSomeAnd, codes, if◌then◌else◌, length, nat_lt, slice_get}
use Rattle.std.specs.Char.{is_ascii_digit, is_ascii_whitespace}
use Rattle.std.specs.Fmt.{signed_decimal}
use Rattle.std.specs.Io.KnownBytes.{Appends, Keeps}
use Rattle.std.specs.List.{after_first, before_first, filter, list_all}
use Rattle.std.specs.Str.Lines.{lines}
use Rattle.std.specs.Str.Parse.{digits_value}
use Rattle.sok_book.specs.declared.fault.BookFault.TheVariants as refusal
use Rattle.sok_book.specs.Books.{Book}
use Rattle.sok_engine.specs.declared.fault.ToolFault.{ToolFault}
use Rattle.sok_engine.specs.declared.fault.ToolFault.TheVariants as tool
use Rattle.sok_engine.specs.Limits.{input_limit}
use Rattle.sok_engine.specs.Written.{Answer}
use Rattle.sok_keep.specs.Offers.{IsOffer}
use Rattle.sok_settle.specs.Going.{EndsAt, GoesSome, GoesUntil, Leave, Step}
use Rattle.sok_settle.specs.Lines.{fault_line}

abbrev pub is_blank_line : List ℕ → Bool
is_blank_line line = list_all is_ascii_whitespace line

-- the lines of a text that are not blank
abbrev pub full_lines : List ℕ → List (List ℕ)
full_lines bytes = filter (λ line. not (is_blank_line line)) (lines bytes)

-- the number that digits spell, if 32 bits hold it; otherwise 0, which is the id of no level
abbrev pub word_id : List ℕ → ℕ
word_id word = if list_all is_ascii_digit word && nat_lt (digits_value 10 word) 4294967296 then digits_value 10 word else 0

-- the id that the first word of a line is
abbrev pub line_id : List ℕ → ℤ
line_id line = pos (word_id (before_first is_ascii_whitespace line))

-- the text after the blank that ends this word
abbrev pub line_text : List ℕ → List ℕ
line_text line = after_first is_ascii_whitespace line

-- A text is offered to the level with an id. Its line is the id and what `offer` answers: stored, or the best is kept; or its fault.
pub data AnswersOffer (id : ℤ) (text : List ℕ) (book : Book) (told : List ℕ) (taken : Bool) (after : Book) : Type 0 where
  is_taken : (answer : Answer) → IsOffer book id text after (Ok answer) → told ≡ signed_decimal id ++ (codes " " ++ answer.text) → taken ≡ true
      → AnswersOffer id text book told taken after
  is_refused : (fault : ToolFault) → IsOffer book id text book (Err fault) → fault ≢ tool.Book refusal.Database → told ≡ fault_line id fault → taken ≡ false
      → after ≡ book → AnswersOffer id text book told taken after

-- the lines in order
abbrev pub line_step : List (List ℕ) → ℕ → Step
line_step ls n book told taken after = IsSomeAnd (slice_get ls n) (λ line. AnswersOffer (line_id line) (line_text line) book told taken after)

-- if the call ends at a line, the book stays as it was, and no write fails before the line
abbrev pub Stays : Leave
Stays = record { leaves = λ before after. after ≡ before; unwritten = λ before. ⊥ }

-- some of the first lines were offered, or none
abbrev pub OffersSome : List (List ℕ) → Book → Book → Type 0
OffersSome ls = GoesSome (line_step ls) (λ n. Stays)

-- the same of the lines that a reader has left
abbrev pub OffersBytes : Option (List ℕ) → Book → Book → Type 0
OffersBytes known book after = (bytes : List ℕ) × IfSome known (λ all. bytes ≡ all) × OffersSome (full_lines bytes) book after

abbrev pub offers_status : Bool → ℕ
offers_status true = 0
offers_status false = 3

-- How the call ends after so many lines, whose answers were written: all lines were offered; or they could not be read; or it ends at the next line.
abbrev pub EndsOffers : List ℕ → Book → Book → Option (List ℕ) → Option (List ℕ) → Result ℕ ToolFault → ℕ → List ℕ → Bool → Book → Type 0
EndsOffers bytes book after old new (Ok status) n text all before =
    (length bytes ≤ input_limit) × (n ≡ length (full_lines bytes)) × (after ≡ before) × (status ≡ offers_status all) × Appends old new text
EndsOffers bytes book after old new (Err tool.ReadFailed) n text all before = (n ≡ 0) × (after ≡ book) × Keeps old new
EndsOffers bytes book after old new (Err tool.TooMuch) n text all before = (input_limit < length bytes) × (n ≡ 0) × (after ≡ book) × Keeps old new
EndsOffers bytes book after old new (Err fault) n text all before =
    EndsAt (line_step (full_lines bytes) n) Stays text before after old new fault

-- the first lines of these bytes were offered, and then the call ended
abbrev pub OffersUntil : List ℕ → Book → Book → Option (List ℕ) → Option (List ℕ) → Result ℕ ToolFault → Type 0
OffersUntil bytes book after old new result = GoesUntil (line_step (full_lines bytes)) (EndsOffers bytes book after old new result) book

-- the same of the bytes that a reader has left; of some bytes, if it does not tell them
abbrev pub WritesOffers : Book → Option (List ℕ) → Book → Option (List ℕ) → Option (List ℕ) → Result ℕ ToolFault → Type 0
WritesOffers book known after old new result = (bytes : List ℕ) × IfSome known (λ all. bytes ≡ all) × OffersUntil bytes book after old new result

-- The answers to letters that are offered, and the book after them.
use Rattle.std.specs.Prelude.{ℕ, ℤ, ◌≡◌, ◌⊎◌, List, ◌++◌, Option, Some, Result, Ok, Err, IfErr, IsSomeAnd, codes}
use Rattle.std.specs.Fmt.{decimal}
use Rattle.sok_rules.specs.declared.cell.Dir.{Dir}
use Rattle.sok_text.specs.declared.lurd.LurdFault.{LurdFault}
use Rattle.sok_text.specs.Lurd.{GoesWrong, Spells}
use Rattle.sok_book.specs.declared.fault.BookFault.TheVariants as refusal
use Rattle.sok_book.specs.declared.fault.BookFault.{BookFault}
use Rattle.sok_book.specs.declared.record.Offer.{Offer}
use Rattle.sok_book.specs.declared.record.Offer.TheVariants.{Stored, Kept}
use Rattle.sok_book.specs.Books.{Book, Solution, page_at}
use Rattle.sok_book.specs.Commands.{Offers}
use Rattle.sok_book.specs.Refusals.{IsNotOffered}
use Rattle.sok_engine.specs.declared.fault.ToolFault.{ToolFault}
use Rattle.sok_engine.specs.declared.fault.ToolFault.TheVariants as tool
use Rattle.sok_engine.specs.Faults.{of_book, of_lurd}
use Rattle.sok_engine.specs.Written.{Answer, Answers, Writes}
use Rattle.sok_store.specs.Calls.{id_number}

abbrev pub offer_word : Offer → List ℕ
offer_word Stored = codes "stored"
offer_word Kept = codes "kept"

abbrev pub offer_status : Offer → ℕ
offer_status Stored = 0
offer_status Kept = 1

-- what became of an offer, and the pushes and moves of the best solution
abbrev pub offer_line : Offer → ℕ → ℕ → List ℕ
offer_line offer pushes moves = offer_word offer ++ (codes " " ++ (decimal pushes ++ (codes " " ++ (decimal moves ++ codes "\n"))))

abbrev pub told_offer : Offer → ℕ → ℕ → Answer
told_offer offer pushes moves = record { text = offer_line offer pushes moves; status = offer_status offer }

-- the level with this id has this best solution
abbrev pub HasBest : Book → ℕ → Solution → Type 0
HasBest book id best = IsSomeAnd (page_at book id) (λ page. page.best ≡ Some best)

-- the command was done, and the answer has the pushes and moves of the best solution in the book after it
pub record TellsOffer (book : Book) (id : ℕ) (letters : List Dir) (after : Book) (answer : Answer) : Type 0 where
  pub offer : Offer
  pub offered : Offers book id letters offer after
  pub best : Solution
  pub has : HasBest after id best
  pub told : answer ≡ told_offer offer best.pushes best.moves

-- the book refuses these letters, or the database refuses
abbrev pub IsLetterFault : Book → ℕ → List Dir → ToolFault → Type 0
IsLetterFault book id letters fault = (fault ≡ tool.Book refusal.Database) ⊎ ((cause : BookFault) × IsNotOffered book id letters cause × (fault ≡ of_book cause))

-- the text does not spell letters, or it does and the letters are refused
abbrev pub IsTextFault : Book → ℕ → List ℕ → ToolFault → Type 0
IsTextFault book id text fault =
    ((wrong : LurdFault) × GoesWrong text wrong × (fault ≡ of_lurd wrong)) ⊎ ((letters : List Dir) × Spells text letters × IsLetterFault book id letters fault)

-- the answer to a text that is offered to the level with this id; `after` is the book after it
abbrev pub IsOffer : Book → ℤ → List ℕ → Book → Answers
IsOffer book id text after (Ok answer) = (letters : List Dir) × Spells text letters × TellsOffer book (id_number id) letters after answer
IsOffer book id text after (Err fault) = IsTextFault book (id_number id) text fault

-- on a fault the book stays, unless the command was done and its answer could not be written
abbrev pub StaysOnFault : Book → Book → Result ℕ ToolFault → Type 0
StaysOnFault book after result = IfErr result (λ fault. (fault ≡ tool.WriteFailed) ⊎ (after ≡ book))

-- the offer of this text makes this book
abbrev pub OffersText : ℤ → List ℕ → Book → Book → Type 0
OffersText id text book after = (letters : List Dir) × Spells text letters × (answer : Offer) × Offers book (id_number id) letters answer after

-- the answer was written, and this is the book after the command
abbrev pub WritesOffer : Book → ℤ → List ℕ → Book → Option (List ℕ) → Option (List ℕ) → Result ℕ ToolFault → Type 0
WritesOffer book id text after old new result = Writes (IsOffer book id text after) old new result × StaysOnFault book after result

-- What is shown of a book.
use Rattle.std.specs.Prelude.{ℤ, ◌≡◌, ◌⊎◌, Option, Some, None, Result, Ok, Err}
use Rattle.sok_book.specs.declared.fault.BookFault.TheVariants as refusal
use Rattle.sok_book.specs.Books.{Book, Page, page_at}
use Rattle.sok_book.specs.declared.text.BookText.{BookText}
use Rattle.sok_book.specs.BookTexts.{book_text}
use Rattle.sok_book.specs.Shown.{shown_text}
use Rattle.sok_engine.specs.declared.fault.ToolFault.{ToolFault}
use Rattle.sok_engine.specs.declared.fault.ToolFault.TheVariants as tool
use Rattle.sok_engine.specs.Written.{Answer, Answers}
use Rattle.sok_store.specs.Calls.{id_number}

-- these answers, but the database may refuse instead
abbrev pub UnlessRefused : Answers → Answers
UnlessRefused P answer = (answer ≡ Err (tool.Book refusal.Database)) ⊎ P answer

-- the page as it is shown, or the fault that there is none
abbrev pub show_answer : Option Page → Result Answer ToolFault
show_answer None = Err (tool.Book refusal.NoLevel)
show_answer (Some page) = Ok (record { text = shown_text page; status = 0 })

-- the answer that shows the page with this id
abbrev pub IsShow : Book → ℤ → Answers
IsShow book id = UnlessRefused (λ answer. answer ≡ show_answer (page_at book (id_number id)))

abbrev pub book_answer : BookText → Book → Answer
book_answer text book = record { text = book_text text book; status = 0 }

-- the answer that has this text of all levels
abbrev pub IsBookText : BookText → Book → Answers
IsBookText text book = UnlessRefused (λ answer. answer ≡ Ok (book_answer text book))

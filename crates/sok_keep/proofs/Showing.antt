-- What is shown of a book, as a call answers it.
use Rattle.std.proofs.Common.{ℕ, ℤ, ◌≡◌, ◌⊎◌, ◌∙◌, ◌+◌, inl, inr, List, [], ◌∷◌, Option, Some, None}
use Rattle.std.proofs.Common.{IsNone, Ok, Err, ap, refl, subst, sym, true≢false}
use Rattle.sqlite.specs.State.{State}
use Rattle.sok_book.specs.declared.fault.BookFault.{BookFault}
use Rattle.sok_book.specs.declared.fault.BookFault.TheVariants as refusal
use Rattle.sok_book.specs.Books.{Book, Page, PageWithId, page_at}
use Rattle.sok_book.specs.declared.text.BookText.{BookText}
use Rattle.sok_book.specs.BookTexts.{book_text}
use Rattle.sok_book.specs.Shown.{shown_text}
use Rattle.sok_engine.specs.declared.fault.ToolFault.{ToolFault}
use Rattle.sok_engine.specs.declared.fault.ToolFault.TheVariants as tool
use Rattle.sok_engine.specs.Faults.{of_book}
use Rattle.sok_engine.specs.Written.{Answer, IsFaultOf, Writes}
use Rattle.sok_store.specs.Faults.{IsOutside}
use Rattle.sok_book.specs.Records.{AreRecordsOf, IsRecordAt, pages_from, pages_of}
use Rattle.sok_store.specs.Calls.{KeepsBook, id_number}
use Rattle.sok_keep.specs.Shows.{IsBookText, IsShow, show_answer}
use Rattle.sok_keep.proofs.Ending.{ends_unwritten}

-- an answer is its text and its status
pub same_answer : (answer : Answer) (text : List ℕ) (status : ℕ) → answer.text ≡ text → answer.status ≡ status
    → answer ≡ record { text = text; status = status }
same_answer answer text status texts statuses = λ i. record { text = texts i; status = statuses i }

pub shows : (book : Book) (id : ℤ) (kept : PageWithId) (answer : Answer) → IsRecordAt book (id_number id) kept
    → answer.text ≡ shown_text kept.page → answer.status ≡ 0 → IsShow book id (Ok answer)
shows book id kept answer at text status =
    let told : Ok answer ≡ show_answer (Some kept.page) = ap Ok (same_answer answer (shown_text kept.page) 0 text status) in
    inr (told ∙ ap show_answer (sym at.there))

-- there is no such page
no_page : (o : Option Page) → IsNone o → Err (tool.Book refusal.NoLevel) ≡ show_answer o
no_page None none = refl
no_page (Some page) none = absurd (true≢false none)

-- why a page is not shown
pub not_shown : (book : Book) (id : ℤ) (fault : BookFault) → IsOutside fault ⊎ ((fault ≡ refusal.NoLevel) × IsNone (page_at book (id_number id)))
    → IsFaultOf (IsShow book id) (of_book fault)
not_shown book id fault (inl (inl memory)) = subst (λ f. IsFaultOf (IsShow book id) (of_book f)) (sym memory) tt
not_shown book id fault (inl (inr database)) = subst (λ f. IsFaultOf (IsShow book id) (of_book f)) (sym database) (inl refl)
not_shown book id fault (inr (missing, none)) =
    subst (λ f. IsFaultOf (IsShow book id) (of_book f)) (sym missing) (inr (no_page (page_at book (id_number id)) none))

-- the pages of the records of a book are its own
pages_are : (n : ℕ) (book : Book) → pages_of (pages_from n book) ≡ book
pages_are n [] = refl
pages_are n (page ∷ book) = ap (λ more. page ∷ more) (pages_are (n + 1) book)

-- so a text of all records is that of all pages
pub tells_all : (text : BookText) (book : Book) (records : List PageWithId) (answer : Answer) → AreRecordsOf book records
    → answer.text ≡ book_text text (pages_of records) → answer.status ≡ 0 → IsBookText text book (Ok answer)
tells_all text book records answer are same status =
    let told = same ∙ ap (λ rs. book_text text (pages_of rs)) are ∙ ap (book_text text) (pages_are 1 book) in
    inr (ap Ok (same_answer answer (book_text text book) 0 told status))

-- ---- calls

pub page_unshown : (old new : State) (id : ℤ) (held : Option (List ℕ)) (told : ToolFault)
    → (fault : BookFault) × (told ≡ of_book fault) × KeepsBook old new (λ b. IsOutside fault ⊎ ((fault ≡ refusal.NoLevel) × IsNone (page_at b (id_number id))))
    → KeepsBook old new (λ b. Writes (IsShow b id) held held (Err told))
page_unshown old new id held told (fault, is, keeps) clean book holds =
    let (why, kept) = keeps clean book holds in
    (ends_unwritten (IsShow book id) held told (subst (IsFaultOf (IsShow book id)) (sym is) (not_shown book id fault why)), kept)

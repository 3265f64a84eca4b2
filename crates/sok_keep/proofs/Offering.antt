-- What is told of letters that are offered.
use Rattle.std.proofs.Common.{ℤ, ℕ, ◌≡◌, ◌⊎◌, inl, inr, List, Option, Result, Err, refl, subst, sym}
use Rattle.sqlite.specs.State.{State}
use Rattle.sok_rules.specs.declared.cell.Dir.{Dir}
use Rattle.sok_text.specs.declared.lurd.LurdFault.{LurdFault}
use Rattle.sok_text.specs.declared.lurd.LurdFault.TheVariants as lurd
use Rattle.sok_text.specs.Lurd.{GoesWrong, Spells}
use Rattle.sok_book.specs.declared.fault.BookFault.{BookFault}
use Rattle.sok_book.specs.Books.{Book}
use Rattle.sok_book.specs.Refusals.{IsNotOffered}
use Rattle.sok_engine.specs.declared.fault.ToolFault.{ToolFault}
use Rattle.sok_engine.specs.Faults.{of_book, of_lurd}
use Rattle.sok_engine.specs.Written.{IsFaultOf, WritesOne}
use Rattle.sok_engine.proofs.Answering.{Writes-one}
use Rattle.sok_store.specs.Faults.{IsOutside}
use Rattle.sok_store.specs.Calls.{ChangesBook, KeepsBook, StoresChange, id_number}
use Rattle.sok_store.specs.Standing.{OffersTelling}
use Rattle.sok_store.specs.declared.standing.Standing.{Standing}
use Rattle.sok_store.proofs.Calls.{changes_more, keeps_turns, same_turns}
use Rattle.sok_keep.specs.Offers.{IsOffer, TellsOffer, WritesOffer, told_offer}
use Rattle.sok_keep.proofs.Ending.{book_fault, ends_unwritten, lurd_fault, stays_written}

-- it is told of the book after the offer
pub tells : (book : Book) (id : ℕ) (letters : List Dir) (told : Standing) (after : Book) → OffersTelling book id letters told after
    → TellsOffer book id letters after (told_offer told.offer told.pushes told.moves)
tells book id letters told after done = record {
  offer = told.offer;
  offered = done.offered;
  best = done.best;
  has = done.has;
  told = λ i. told_offer told.offer (done.pushes i) (done.moves i);
}

-- a fault of the book is told
letter_fault : (book : Book) (id : ℤ) (text : List ℕ) (letters : List Dir) (after : Book) (fault : BookFault) → Spells text letters
    → IsOutside fault ⊎ IsNotOffered book (id_number id) letters fault → IsFaultOf (IsOffer book id text after) (of_book fault)
letter_fault book id text letters after fault spelled (inl (inl memory)) = subst (λ f. IsFaultOf (IsOffer book id text after) (of_book f)) (sym memory) tt
letter_fault book id text letters after fault spelled (inl (inr database)) =
    subst (λ f. IsFaultOf (IsOffer book id text after) (of_book f)) (sym database) (inr (letters, spelled, inl refl))
letter_fault book id text letters after fault spelled (inr refused) =
    book_fault (IsOffer book id text after) fault (inr (letters, spelled, inr (fault, refused, refl)))

-- the text does not spell letters
pub offer_unread : (s : State) (id : ℤ) (text : List ℕ) (held : Option (List ℕ)) (fault : LurdFault) → (fault ≡ lurd.Memory) ⊎ GoesWrong text fault
    → ChangesBook s s (λ b after. WritesOffer b id text after held held (Err (of_lurd fault)))
offer_unread s id text held fault why = same_turns _ (λ book.
    let is : IsFaultOf (IsOffer book id text book) (of_lurd fault) = elim why [
      | inl memory ↦ subst (λ f. IsFaultOf (IsOffer book id text book) (of_lurd f)) (sym memory) tt
      | inr wrong ↦ lurd_fault (IsOffer book id text book) fault (inl (fault, wrong, refl))
    ] in
    (ends_unwritten (IsOffer book id text book) held (of_lurd fault) is, inr refl))

-- they are refused
pub offer_refused : (old new : State) (id : ℤ) (text : List ℕ) (letters : List Dir) (held : Option (List ℕ)) (fault : BookFault) → Spells text letters
    → KeepsBook old new (λ b. IsOutside fault ⊎ IsNotOffered b (id_number id) letters fault)
    → ChangesBook old new (λ b after. WritesOffer b id text after held held (Err (of_book fault)))
offer_refused old new id text letters held fault spelled keeps = keeps_turns _ (λ book why. (
  ends_unwritten (IsOffer book id text book) held (of_book fault) (letter_fault book id text letters book fault spelled why),
  inr refl,
)) keeps

-- or the offer was done, and is told
pub offer_done : (old new : State) (id : ℤ) (text : List ℕ) (letters : List Dir) (told : Standing) (before after : Option (List ℕ))
    (result : Result ℕ ToolFault) → Spells text letters → StoresChange old new (λ b later. OffersTelling b (id_number id) letters told later)
    → WritesOne (told_offer told.offer told.pushes told.moves) before after result → ChangesBook old new (λ b later. WritesOffer b id text later before after result)
offer_done old new id text letters told before after result spelled changes written =
    let answer = told_offer told.offer told.pushes told.moves in
    changes_more (λ book later done. (
      Writes-one (IsOffer book id text later) before after answer result (letters, spelled, tells book (id_number id) letters told later done) written,
      stays_written answer before after result book later written,
    )) changes

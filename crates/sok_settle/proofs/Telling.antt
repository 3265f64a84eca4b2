-- An offer is answered: what becomes of the book.
use Rattle.std.proofs.Common.{ℤ, ℕ, ◌≡◌, ◌⊎◌, ◌++◌, inl, inr, List, Bool, true, false, Option, Result, codes, refl, subst, sym}
use Rattle.std.specs.Fmt.{signed_decimal}
use Rattle.sqlite.specs.State.{State}
use Rattle.sok_rules.specs.declared.cell.Dir.{Dir}
use Rattle.sok_text.specs.declared.lurd.LurdFault.{LurdFault}
use Rattle.sok_text.specs.declared.lurd.LurdFault.TheVariants as lurd
use Rattle.sok_text.specs.Lurd.{GoesWrong, Spells}
use Rattle.sok_book.specs.declared.fault.BookFault.{BookFault}
use Rattle.sok_book.specs.Books.{Book}
use Rattle.sok_book.specs.Refusals.{IsNotOffered}
use Rattle.sok_engine.specs.declared.fault.ToolFault.{ToolFault}
use Rattle.sok_engine.specs.declared.fault.ToolFault.TheVariants as tool
use Rattle.sok_engine.specs.Faults.{of_book, of_lurd}
use Rattle.sok_store.specs.Faults.{IsOutside}
use Rattle.sok_store.specs.Calls.{Carries, ChangesBook, IsCaused, ShowsOn, Stops, StoresChange, id_number}
use Rattle.sok_store.specs.Calls as calls
use Rattle.sok_store.specs.Standing.{OffersTelling}
use Rattle.sok_store.specs.declared.standing.Standing.{Standing}
use Rattle.sok_store.proofs.Calls.{held_shown, keeps_turns, same_turns, stops_less, stops_same}
use Rattle.sok_keep.specs.Offers.{offer_line, told_offer}
use Rattle.sok_keep.proofs.Ending.{book_database, caused_more, lurd_database}
use Rattle.sok_keep.proofs.Offering.{tells}
use Rattle.sok_settle.specs.Going.{GoesStep, IsAnyBook, MayStep}
use Rattle.sok_settle.specs.Lines.{TellsFault, TellsLine, TellsRefused, TellsUnread, fault_line}
use Rattle.sok_settle.specs.Offers.{AnswersOffer, Stays, is_refused, is_taken}
use Rattle.sok_settle.proofs.Going.{Leads, changes_leads, left_steps, memory_goes, same_leads, told_goes}

module _ (id : ℤ) (text : List ℕ) where
  abbrev GoesOffer : State → State → Option (List ℕ) → Option (List ℕ) → Result Bool ToolFault → Type 0
  GoesOffer = GoesStep IsAnyBook (AnswersOffer id text) Stays

  abbrev MayOffer : Book → Book → Type 0
  MayOffer book after = IsAnyBook book → MayStep (AnswersOffer id text) Stays book after

  -- ---- a fault of its own is told, or memory is refused for its line

  fault_goes : (old new : State) (fault : ToolFault) (held later : Option (List ℕ)) (result : Result Bool ToolFault)
      → Leads old new (λ book after. IsAnyBook book → AnswersOffer id text book (fault_line id fault) false after)
      → ChangesBook old new (λ book after. IsAnyBook book → after ≡ book) → Stops old new MayOffer → TellsFault id fault held later result
      → GoesOffer old new held later result
  fault_goes old new fault held later result leads stays stop (inl (is, keeps)) =
      subst (λ (r : Result Bool ToolFault). GoesOffer old new held later r) (sym is)
      (memory_goes (AnswersOffer id text) Stays IsAnyBook old new held later tool.Memory refl keeps stays stop)
  fault_goes old new fault held later result leads stays stop (inr tells_line) =
      told_goes (AnswersOffer id text) Stays IsAnyBook old new (fault_line id fault) false held later result leads stop tells_line

  -- the text does not spell letters
  pub unread_goes : (s : State) (held later : Option (List ℕ)) (fault : LurdFault) (result : Result Bool ToolFault)
      → (fault ≡ lurd.Memory) ⊎ GoesWrong text fault → TellsUnread id fault held later result → GoesOffer s s held later result
  unread_goes s held later fault result why (inl (memory, is, keeps)) =
      subst (λ (r : Result Bool ToolFault). GoesOffer s s held later r) (sym is)
      (memory_goes (AnswersOffer id text) Stays IsAnyBook s s held later tool.Memory refl keeps (same_turns _ (λ book any. refl)) (stops_same s _))
  unread_goes s held later fault result why (inr (other, tells_fault)) =
      let wrong : GoesWrong text fault = elim why [ inl memory ↦ absurd (other memory) | inr goes ↦ goes ] in
      fault_goes s s (of_lurd fault) held later result
      (same_leads s _ (λ book kept any. is_refused (of_lurd fault) (inl (fault, wrong, refl)) (lurd_database fault) refl refl refl))
      (same_turns _ (λ book any. refl)) (stops_same s _) tells_fault

  -- ---- its letters are offered

  module _ (old new : State) (letters : List Dir) (spelled : Spells text letters)
      (stop : Stops old new (λ book after. (told : Standing) × OffersTelling book (id_number id) letters told after)) where
    abbrev IsOffered : Book → Book → Type 0
    IsOffered book after = (told : Standing) × OffersTelling book (id_number id) letters told after

    taken : (book after : Book) (told : Standing) → OffersTelling book (id_number id) letters told after
        → AnswersOffer id text book (signed_decimal id ++ (codes " " ++ offer_line told.offer told.pushes told.moves)) true after
    taken book after told it =
        is_taken (told_offer told.offer told.pushes told.moves) (letters, spelled, tells book (id_number id) letters told after it) refl refl

    may : (book after : Book) → IsOffered book after → MayOffer book after
    may book after (told, it) any = inr (signed_decimal id ++ (codes " " ++ offer_line told.offer told.pushes told.moves), true, taken book after told it)

    offer_stops : Stops old new MayOffer
    offer_stops = stops_less old new IsOffered MayOffer may stop

    -- they are stored, or the best is kept
    pub taken_goes : (told : Standing) (held later : Option (List ℕ)) (result : Result Bool ToolFault)
        → StoresChange old new (λ book after. OffersTelling book (id_number id) letters told after)
        → TellsLine (signed_decimal id ++ (codes " " ++ offer_line told.offer told.pushes told.moves)) true held later result
        → GoesOffer old new held later result
    taken_goes told held later result changes tells_line =
        told_goes (AnswersOffer id text) Stays IsAnyBook old new
        (signed_decimal id ++ (codes " " ++ offer_line told.offer told.pushes told.moves)) true held later result
        (changes_leads old new _ (λ clean book holds.
        let (after, it, stores) = changes clean book holds in (after, λ any. taken book after told it, stores)))
        offer_stops tells_line

    -- or the book refuses them, or the call ends
    module _ (fault : BookFault) (keeps : calls.KeepsBook old new (λ book. IsOutside fault ⊎ IsNotOffered book (id_number id) letters fault)) where
      refused : (IsOutside fault → ⊥) → (book after : Book) → IsOutside fault ⊎ IsNotOffered book (id_number id) letters fault → after ≡ book
          → AnswersOffer id text book (fault_line id (of_book fault)) false after
      refused inside book after (inl outside) same = absurd (inside outside)
      refused inside book after (inr not_offered) same =
          is_refused (of_book fault) (inr (letters, spelled, inr (fault, not_offered, refl))) (λ database. inside (inr (book_database fault database))) refl refl same

      pub refused_goes : (held later : Option (List ℕ)) (result : Result Bool ToolFault) → ShowsOn old new fault → IsCaused old new IsOffered fault
          → TellsRefused id fault held later result → GoesOffer old new held later result
      refused_goes held later result shows caused (inl (outside, is, unwritten)) =
          subst (λ (r : Result Bool ToolFault). GoesOffer old new held later r) (sym is) (record {
            turns = keeps_turns _ (λ book why any. left_steps (AnswersOffer id text) Stays book book held later fault outside refl unwritten) keeps;
            done = tt;
            stop = offer_stops;
            cause = caused_more old new MayOffer IsOffered may fault caused;
          })
      refused_goes held later result shows caused (inr (inside, tells_fault)) =
          let carries : Carries old new (λ book after. after ≡ book) = elim shows [ inl outside ↦ absurd (inside outside) | inr on ↦ on ] in
          fault_goes old new (of_book fault) held later result (
            keeps_turns _ (λ book why any. refused inside book book why refl) keeps,
            λ clean book shows_old.
                let (why, holds_new) = keeps clean book (held_shown old book shows_old) in
                let (after, same, shows_new, up) = carries clean book shows_old in (after, λ any. refused inside book after why same, shows_new, up),
          ) (keeps_turns _ (λ book why any. refl) keeps) offer_stops tells_fault

-- the same of an id and a text that are those
pub same_goes : (id other : ℤ) (text more : List ℕ) (old new : State) (held later : Option (List ℕ)) (result : Result Bool ToolFault) → id ≡ other → text ≡ more
    → GoesStep IsAnyBook (AnswersOffer id text) Stays old new held later result → GoesStep IsAnyBook (AnswersOffer other more) Stays old new held later result
same_goes id other text more old new held later result same_id same_text goes =
    subst (λ t. GoesStep IsAnyBook (AnswersOffer other t) Stays old new held later result) same_text
    (subst (λ i. GoesStep IsAnyBook (AnswersOffer i text) Stays old new held later result) same_id goes)

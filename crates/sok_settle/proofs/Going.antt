-- How a call that goes one step treats the connection.
use Rattle.std.proofs.Common.{ℕ, ◌≡◌, ◌≢◌, ◌∙◌, inl, inr, List, Bool, Option, Result, Ok, Err, refl, subst, sym}
use Rattle.std.specs.Io.KnownBytes.{Keeps}
use Rattle.sqlite.specs.State.{State}
use Rattle.sqlite.proofs.StateLemmas.{survives_weaker}
use Rattle.sok_book.specs.declared.fault.BookFault.{BookFault}
use Rattle.sok_book.specs.declared.fault.BookFault.TheVariants as refusal
use Rattle.sok_book.specs.Books.{Book}
use Rattle.sok_engine.specs.declared.fault.ToolFault.{ToolFault}
use Rattle.sok_engine.specs.declared.fault.ToolFault.TheVariants as tool
use Rattle.sok_engine.specs.Faults.{of_book}
use Rattle.sok_store.specs.Faults.{IsOutside}
use Rattle.sok_store.specs.Rows.{IsKeptBook}
use Rattle.sok_store.specs.Calls.{Carries, ChangesBook, Stops, StoresChange}
use Rattle.sok_store.proofs.Calls.{changes_turns, held_shown, same_turns, shown, stops_same, turns_more}
use Rattle.sok_keep.specs.Causes.{IsCausedFault}
use Rattle.sok_keep.proofs.Ending.{book_database}
use Rattle.sok_keep.proofs.Treating.{memory_caused}
use Rattle.sok_settle.specs.Going.{Goes, GoesStep, Leave, MayStep, Step, StepsOnce}
use Rattle.sok_settle.specs.Lines.{TellsLine}

-- ---- books that are held, and shown

abbrev pub Leads : State → State → (Book → Book → Type 0) → Type 0
Leads old new Makes = ChangesBook old new Makes × Carries old new Makes

pub changes_leads : (old new : State) (Makes : Book → Book → Type 0) → StoresChange old new Makes → Leads old new Makes
changes_leads old new Makes changes = (
  changes_turns old new Makes changes,
  λ clean book shows.
      let (after, makes, stores) = changes clean book (held_shown old book shows) in (after, makes, shown new after stores, λ up. stores.1.0),
)

-- nothing is done
pub same_leads : (s : State) (Makes : Book → Book → Type 0) → ((book : Book) → IsKeptBook book → Makes book book) → Leads s s Makes
same_leads s Makes so = (λ clean book holds. (book, so book holds.0, holds), λ clean book shows. (book, so book shows.0, shows, λ up. up))

-- ---- faults that are not the database's

pub write_uncaused : (old new : State) (Makes : Book → Book → Type 0) (fault : ToolFault) → fault ≡ tool.WriteFailed → IsCausedFault old new Makes fault
write_uncaused old new Makes fault failed told = let no : tool.WriteFailed ≡ tool.Book refusal.Database = sym failed ∙ told in absurd cc

pub book_uncaused : (old new : State) (Makes : Book → Book → Type 0) (fault : BookFault) → fault ≢ refusal.Database
    → IsCausedFault old new Makes (of_book fault)
book_uncaused old new Makes fault other told = absurd (other (book_database fault told))

-- ---- a step

module _ (One : Step) (Left : Leave) where
  -- the call ends at it for a cause outside
  pub left_steps : (book after : Book) (held later : Option (List ℕ)) (fault : BookFault) → IsOutside fault → Left.leaves book after
      → Keeps held later → StepsOnce One Left book after held later (Err (of_book fault))
  left_steps book after held later fault (inl memory) left keeps =
      subst (λ f. StepsOnce One Left book after held later (Err (of_book f))) (sym memory) (left, keeps)
  left_steps book after held later fault (inr database) left keeps =
      subst (λ f. StepsOnce One Left book after held later (Err (of_book f))) (sym database) (left, keeps)

  -- its line is written
  told_steps : (line : List ℕ) (well : Bool) (held later : Option (List ℕ)) (result : Result Bool ToolFault) → TellsLine line well held later result
      → (book after : Book) → One book line well after → StepsOnce One Left book after held later result
  told_steps line well held later (Ok told) (same, appends) book after makes = (line, subst (λ w. One book line w after) (sym same) makes, appends)
  told_steps line well held later (Err fault) (same, front) book after makes =
      subst (λ f. StepsOnce One Left book after held later (Err f)) (sym same) (inl (line, well, makes, front))

  module _ (P : Book → Type 0) where
    pub told_goes : (old new : State) (line : List ℕ) (well : Bool) (held later : Option (List ℕ)) (result : Result Bool ToolFault)
        → Leads old new (λ book after. P book → One book line well after)
        → Stops old new (λ book after. P book → MayStep One Left book after) → TellsLine line well held later result
        → GoesStep P One Left old new held later result
    told_goes old new line well held later (Ok told) (turns, carries) stop tells = record {
      turns = turns_more (λ book after makes p. told_steps line well held later (Ok told) tells book after (makes p)) turns;
      done = λ clean book shows.
          let (after, makes, shown_after, stays) = carries clean book shows in
          (after, λ p. told_steps line well held later (Ok told) tells book after (makes p), shown_after, stays);
      stop = stop;
      cause = tt;
    }
    told_goes old new line well held later (Err fault) (turns, carries) stop tells = record {
      turns = turns_more (λ book after makes p. told_steps line well held later (Err fault) tells book after (makes p)) turns;
      done = tt;
      stop = stop;
      cause = write_uncaused old new _ fault tells.0;
    }

    -- memory is refused before a line is made
    pub memory_goes : (old new : State) (held later : Option (List ℕ)) (fault : ToolFault) → fault ≡ tool.Memory → Keeps held later
        → ChangesBook old new (λ book after. P book → Left.leaves book after) → Stops old new (λ book after. P book → MayStep One Left book after)
        → GoesStep P One Left old new held later (Err fault)
    memory_goes old new held later fault memory keeps turns stop = record {
      turns = turns_more (λ book after left p. subst (λ f. StepsOnce One Left book after held later (Err f)) (sym memory) (left p, keeps)) turns;
      done = tt;
      stop = stop;
      cause = memory_caused old new _ fault memory;
    }

    -- a write fails before a line is made
    pub unwritten_goes : (s : State) (held later : Option (List ℕ)) → Keeps held later → ((book : Book) → P book → Left.unwritten book)
        → GoesStep P One Left s s held later (Err tool.WriteFailed)
    unwritten_goes s held later keeps why = record {
      turns = same_turns _ (λ book p. inr (why book p, refl, keeps));
      done = tt;
      stop = stops_same s _;
      cause = write_uncaused s s _ tool.WriteFailed refl;
    }

-- ---- what is made, said in other words

module _ (old new : State) (Makes Other MayMake MayOther : Book → Book → Type 0)
    (so : (book after : Book) → IsKeptBook book → Makes book after → Other book after)
    (may : (book after : Book) → IsKeptBook book → MayMake book after → MayOther book after) where
  other_turns : ChangesBook old new Makes → ChangesBook old new Other
  other_turns turns clean book holds = let (after, makes, held) = turns clean book holds in (after, so book after holds.0 makes, held)

  other_stops : Stops old new MayMake → Stops old new MayOther
  other_stops stop = survives_weaker old new _ _ (λ _ db made book shows.
      let (after, makes, has) = made book shows in (after, may book after shows.0 makes, has)) stop

  pub goes_other : {X : Type 0} (result : Result X ToolFault) → Goes {X = X} old new Makes MayMake result → Goes {X = X} old new Other MayOther result
  goes_other (Ok x) goes = record {
    turns = other_turns goes.turns;
    done = λ clean book shows.
        let (after, makes, shown_after, stays) = goes.done clean book shows in (after, so book after shows.0 makes, shown_after, stays);
    stop = other_stops goes.stop;
    cause = tt;
  }
  goes_other (Err fault) goes = record {
    turns = other_turns goes.turns;
    done = tt;
    stop = other_stops goes.stop;
    cause = λ told same clean book holds. elim (goes.cause told same clean book holds) [
      | inl (after, makes, big) ↦ inl (after, may book after holds.0 makes, big)
      | inr why ↦ inr why
    ];
  }

-- ---- a step, said in other words

module _ (One Other : Step) (Left Else : Leave) (P : Book → Type 0)
    (step : (book after : Book) (line : List ℕ) (well : Bool) → P book → One book line well after → Other book line well after)
    (leaves : (book after : Book) → P book → Left.leaves book after → Else.leaves book after)
    (unwritten : (book : Book) → P book → Left.unwritten book → Else.unwritten book) where
  other_once : (book after : Book) (held later : Option (List ℕ)) (result : Result Bool ToolFault) → P book
      → StepsOnce One Left book after held later result → StepsOnce Other Else book after held later result
  other_once book after held later (Ok well) p (line, makes, appends) = (line, step book after line well p makes, appends)
  other_once book after held later (Err tool.WriteFailed) p (inl (line, well, makes, front)) = inl (line, well, step book after line well p makes, front)
  other_once book after held later (Err tool.WriteFailed) p (inr (why, same, keeps)) = inr (unwritten book p why, same, keeps)
  other_once book after held later (Err tool.Memory) p (left, keeps) = (leaves book after p left, keeps)
  other_once book after held later (Err (tool.Book refusal.Database)) p (left, keeps) = (leaves book after p left, keeps)
  other_once book after held later (Err fault) p never = absurd never

  other_may : (book after : Book) → P book → MayStep One Left book after → MayStep Other Else book after
  other_may book after p (inl left) = inl (leaves book after p left)
  other_may book after p (inr (line, well, makes)) = inr (line, well, step book after line well p makes)

  pub step_other : (old new : State) (held later : Option (List ℕ)) (result : Result Bool ToolFault) → GoesStep P One Left old new held later result
      → GoesStep P Other Else old new held later result
  step_other old new held later result goes =
      goes_other old new _ _ _ _ (λ book after kept makes p. other_once book after held later result p (makes p))
      (λ book after kept makes p. other_may book after p (makes p)) result goes

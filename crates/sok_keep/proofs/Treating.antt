-- How levels that are added treat the connection.
use Rattle.std.proofs.Common.{ℕ, ℤ, pos, ◌≡◌, ◌≢◌, ◌⊎◌, ◌∙◌, ◌+◌, ◌<◌, inl, inr, List, [], ◌++◌, Option, Result, Ok, Err, IfErr, OnOk}
use Rattle.std.proofs.Common.{arith, length, refl, subst, sym}
use Rattle.sqlite.specs.State.{State, HasCleanDisk}
use Rattle.sqlite.proofs.StateLemmas.{survives_then}
use Rattle.sok_rules.specs.declared.fault.LevelFault.{LevelFault}
use Rattle.sok_rules.specs.declared.fault.LevelFault.TheVariants as level
use Rattle.sok_rules.specs.Squares.{Rows}
use Rattle.sok_text.specs.Collections.{Block, level_at}
use Rattle.sok_text.specs.Titles.{title_at}
use Rattle.sok_board.specs.declared.fault.BoardFault.{BoardFault}
use Rattle.sok_board.specs.Refusals.{IsAcceptable}
use Rattle.sok_book.specs.declared.fault.BookFault.{BookFault}
use Rattle.sok_book.specs.declared.fault.BookFault.TheVariants as refusal
use Rattle.sok_book.specs.Books.{Book}
use Rattle.sok_book.specs.Commands.{Adds}
use Rattle.sok_book.specs.Refusals.{IsNotAdded}
use Rattle.sok_engine.specs.declared.fault.ToolFault.{ToolFault}
use Rattle.sok_engine.specs.declared.fault.ToolFault.TheVariants as tool
use Rattle.sok_engine.specs.Faults.{of_board, of_book, of_level}
use Rattle.sok_store.specs.Faults.{IsOutside}
use Rattle.sok_store.specs.Rows.{ShowsBook}
use Rattle.sok_store.specs.Calls.{Carries, ChangesBook, IsCaused, KeepsBook, KeepsOpen, Stops, StoresChange, id_number, kept_if_given}
use Rattle.sok_store.specs.Running.{Admits}
use Rattle.sok_store.proofs.Calls.{held_shown, shown, stops_less, stops_same}
use Rattle.sok_store.proofs.Caused.{cause_before}
use Rattle.sok_keep.specs.Adds.{AddsCount, AddsFirst, added, fault_line, faulty, id_line, more, none, unaccepted}
use Rattle.sok_keep.specs.Adding.{AddsNext, AddsSome}
use Rattle.sok_keep.specs.Causes.{IsCausedFault, Treats}
use Rattle.sok_keep.proofs.Adding.{fails, is_faulty, no_board, reads}
use Rattle.sok_keep.proofs.Ending.{caused_more, unproved_caused}

-- want of memory is no fault of the database
pub memory_caused : (old new : State) (Makes : Book → Book → Type 0) (fault : ToolFault) → fault ≡ tool.Memory → IsCausedFault old new Makes fault
memory_caused old new Makes fault memory told = absurd (let no : tool.Memory ≡ tool.Book refusal.Database = sym memory ∙ told in cc)

module _ {T : Type 0} (old new : State) (Makes : Book → Book → Type 0) where
  -- memory was refused, whatever was made before
  pub memory_treats : (fault : ToolFault) → fault ≡ tool.Memory → Stops old new Makes → Treats {T = T} old new Makes (Err fault)
  memory_treats fault memory stop = record { done = tt; stop = stop; cause = memory_caused old new Makes fault memory }

  -- so it is where more may be made
  pub treats_more : (More : Book → Book → Type 0) → ((book after : Book) → Makes book after → More book after) → (result : Result T ToolFault)
      → Treats old new Makes result → Treats old new More result
  treats_more More so (Ok x) it = record {
    done = λ clean book shows. let (after, made, shown_after, stays) = it.done clean book shows in (after, so book after made, shown_after, stays);
    stop = stops_less old new Makes More so it.stop;
    cause = tt;
  }
  treats_more More so (Err fault) it = record {
    done = tt;
    stop = stops_less old new Makes More so it.stop;
    cause = λ told same clean book holds. elim (it.cause told same clean book holds) [
      | inl (after, made, big) ↦ inl (after, so book after made, big)
      | inr why ↦ inr why
    ];
  }

-- ---- one level

admitted : (n : ℕ) (rows : Rows) (title : Option (List ℕ)) (book after : Book) → Admits rows (kept_if_given title) book after
    → AddsNext n (Ok rows) title book after
admitted n rows title book after (accepted, (id, adds)) = (id_line n (pos id), added rows (pos id) refl accepted adds refl)

level_stops : (old new : State) (n : ℕ) (rows : Rows) (title : Option (List ℕ)) → Stops old new (Admits rows (kept_if_given title))
    → Stops old new (AddsNext n (Ok rows) title)
level_stops old new n rows title stop = stops_less old new _ _ (admitted n rows title) stop

module _ {T : Type 0} (old new : State) (n : ℕ) (rows : Rows) (title : Option (List ℕ)) (stop : Stops old new (Admits rows (kept_if_given title))) where
  -- it is added, or stands there already
  pub added_treats : (id : ℤ) (line : T) → IsAcceptable rows → StoresChange old new (λ b after. Adds b rows (kept_if_given title) (id_number id) after)
      → Treats old new (AddsNext n (Ok rows) title) (Ok line)
  added_treats id line accepted changes = record {
    done = λ clean book shows.
        let (after, adds, stores) = changes clean book (held_shown old book shows) in
        (after, (id_line n id, added rows id refl accepted adds refl), shown new after stores, λ up. stores.1.0);
    stop = level_stops old new n rows title stop;
    cause = tt;
  }

  -- the book refuses it
  pub refused_treats : (told whole : List ℕ) (fault : BookFault) (result : Result T ToolFault)
      → OnOk result ((cause : BoardFault) × (fault ≡ refusal.Level cause) × (whole ≡ told ++ fault_line n (of_board cause)))
      → IfErr result (λ why. (why ≡ tool.Memory) ⊎ (((cause : BoardFault) → fault ≢ refusal.Level cause) × (why ≡ of_book fault)))
      → KeepsBook old new (λ b. IsOutside fault ⊎ IsNotAdded b rows fault) → ((cause : BoardFault) → fault ≡ refusal.Level cause → new ≡ old)
      → IsCaused old new (Admits rows (kept_if_given title)) fault → Treats old new (AddsNext n (Ok rows) title) result
  refused_treats told whole fault (Ok done) (cause, is, grown) given keeps untouched caused = record {
    done = λ clean book shows.
        let (why, held) = keeps clean book (held_shown old book shows) in
        let same = sym (untouched cause is) in (
          book,
          (fault_line n (of_board cause), unaccepted rows cause refl (no_board book rows fault cause why is) refl refl),
          subst (λ s. ShowsBook s book) same shows,
          rw (← same) (λ up. up),
        );
    stop = level_stops old new n rows title stop;
    cause = tt;
  }
  refused_treats told whole fault (Err why) says given keeps untouched caused = record {
    done = tt;
    stop = level_stops old new n rows title stop;
    cause = unproved_caused old new _ fault why (elim given [ inl memory ↦ inl memory | inr (other, is) ↦ inr is ])
        (caused_more old new _ (Admits rows (kept_if_given title)) (admitted n rows title) fault caused);
  }

-- the level that was found in the collection
pub found_treats : {T : Type 0} (old new : State) (n : ℕ) (rows : Rows) (found : Result Rows LevelFault) (title known : Option (List ℕ))
    (result : Result T ToolFault) → (reads rows ≡ fails level.Memory) ⊎ (reads rows ≡ found) → title ≡ known → Treats old new (AddsNext n (Ok rows) title) result
    → Treats old new (AddsNext n found known) result
found_treats old new n rows found title known result (inl memory) same it = absurd cc
found_treats old new n rows found title known result (inr is) same it =
    subst (λ f. Treats old new (AddsNext n f known) result) is (subst (λ t. Treats old new (AddsNext n (Ok rows) t) result) same it)

-- it has a fault
pub faulty_treats : {T : Type 0} (s : State) (n : ℕ) (fault : LevelFault) (found : Result Rows LevelFault) (title : Option (List ℕ))
    (result : Result T ToolFault) → (fails fault ≡ fails level.Memory) ⊎ (fails fault ≡ found) → OnOk result (fault ≢ level.Memory)
    → IfErr result (λ why. why ≡ tool.Memory) → Treats s s (AddsNext n found title) result
faulty_treats s n fault found title (Ok done) is other memory = record {
  done = λ clean book shows. (book, (fault_line n (of_level fault), faulty fault (is_faulty fault found is other) refl refl), shows, λ up. up);
  stop = stops_same s _;
  cause = tt;
}
faulty_treats s n fault found title (Err why) is other memory = memory_treats s s _ why memory (stops_same s _)

-- ---- all levels

pub none_carried : (s : State) (blocks : List Block) → Carries s s (AddsCount blocks 0)
none_carried s blocks clean book shows = (book, ([], none), shows, λ up. up)

-- one more than so many
counted : (blocks : List Block) (n : ℕ) → n < length blocks → (book middle after : Book) → AddsCount blocks n book middle
    → AddsNext (n + 1) (level_at blocks (n + 1)) (title_at blocks (n + 1)) middle after → AddsCount blocks (n + 1) book after
counted blocks n within book middle after (before, first) (line, adds) = (before ++ line, more n before line middle after first within adds)

-- the first levels, and then one more
module _ {T : Type 0} (old mid new : State) (blocks : List Block) (n : ℕ) (text : List ℕ) (within : n < length blocks) (stop : Stops old mid (AddsSome blocks))
    (result : Result T ToolFault) (next : Treats mid new (AddsNext (n + 1) (level_at blocks (n + 1)) (title_at blocks (n + 1))) result) where
  early : HasCleanDisk new → HasCleanDisk mid
  early clean = omega (arith, clean, next.stop.clean)

  next_stops : Carries old mid (AddsCount blocks n) → Stops old new (AddsSome blocks)
  next_stops carries = survives_then old mid new _ _ _ (λ _ db made. made) (λ clean db made book shows.
      let (middle, first, shows_mid, stays) = carries (early clean) book shows in
      let (after, adds, has) = made middle shows_mid in
      (after, (n + 1, counted blocks n within book middle after first adds), has)) stop next.stop

  next_carries : Carries old mid (AddsCount blocks n) → OnOk result (Carries old new (AddsCount blocks (n + 1)))
  next_carries carries = go result next.done
    where
      go : (r : Result T ToolFault) → OnOk r (Carries mid new (AddsNext (n + 1) (level_at blocks (n + 1)) (title_at blocks (n + 1))))
          → OnOk r (Carries old new (AddsCount blocks (n + 1)))
      go (Ok x) done = λ clean book shows.
          let (middle, first, shows_mid, stays) = carries (early clean) book shows in
          let (after, adds, shows_new, stays_new) = done clean middle shows_mid in
          (after, counted blocks n within book middle after first adds, shows_new, λ up. stays_new (stays up))
      go (Err fault) done = tt

  next_caused : ChangesBook old mid (λ b after. AddsFirst blocks b n text after) → IfErr result (IsCausedFault old new (AddsSome blocks))
  next_caused turns = go result next.cause
    where
      go : (r : Result T ToolFault) → IfErr r (IsCausedFault mid new (AddsNext (n + 1) (level_at blocks (n + 1)) (title_at blocks (n + 1))))
          → IfErr r (IsCausedFault old new (AddsSome blocks))
      go (Ok x) cause = tt
      go (Err fault) cause = λ told same clean book holds.
          let (middle, first, held) = turns (early clean) book holds in
          elim (cause told same clean middle held) [
            | inl (after, adds, big) ↦ inl (after, (n + 1, counted blocks n within book middle after (text, first) adds), big)
            | inr why ↦ inr (cause_before old mid new _ _ stop next.stop clean why)
          ]

  pub next_treats : ChangesBook old mid (λ b after. AddsFirst blocks b n text after) → Carries old mid (AddsCount blocks n)
      → OnOk result (Carries old new (AddsCount blocks (n + 1))) × Stops old new (AddsSome blocks) × IfErr result (IsCausedFault old new (AddsSome blocks))
  next_treats turns carries = (next_carries carries, next_stops carries, next_caused turns)

-- all were added
pub all_treats : {T : Type 0} (old new : State) (blocks : List Block) (n : ℕ) (lines : T) → Carries old new (AddsCount blocks n) → Stops old new (AddsSome blocks)
    → Treats old new (AddsSome blocks) (Ok lines)
all_treats old new blocks n lines carries stop = record {
  done = λ clean book shows. let (after, made, shows_new, stays) = carries clean book shows in (after, (n, made), shows_new, stays);
  stop = stop;
  cause = tt;
}

-- what carries a book keeps its connection open
pub carries_open : (old new : State) (Makes : Book → Book → Type 0) → Carries old new Makes → KeepsOpen old new
carries_open old new Makes carries clean book holds up = (carries clean book (holds.0, holds.1 up)).3 up

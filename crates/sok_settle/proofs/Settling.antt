-- Levels that are settled one after another.
use Rattle.std.proofs.Common.{ℕ, ℤ, pos, zero, suc, ◌≡◌, ◌∙◌, ◌+◌, ◌-◌, ◌&&◌, inl, inr, List, [], ◌∷◌, Option, Some, Result, Ok, Err}
use Rattle.std.proofs.Common.{Bool, true, IfErr, OnOk, ap, arith, length, refl, slice_get, subst, sym}
use Rattle.std.proofs.lemmas.Option.{none-some, same_Some}
use Rattle.std.specs.List.{slice_set}
use Rattle.std.proofs.KnownBytes.{Appends-nil, Keeps-refl}
use Rattle.sqlite.specs.State.{State, HasCleanDisk}
use Rattle.sok_rules.specs.declared.cell.Dir.{Dir}
use Rattle.sok_rules.specs.Squares.{Rows}
use Rattle.sok_cert.specs.Claim.{Claim}
use Rattle.sok_cert.specs.Claim.TheVariants as claim
use Rattle.sok_search.specs.Faults.{IsBadLimit}
use Rattle.sok_book.specs.declared.fault.BookFault.{BookFault}
use Rattle.sok_book.specs.declared.record.Offer.{Offer}
use Rattle.sok_book.specs.Books.{Book, Page, PageWithId, page_at}
use Rattle.sok_book.specs.Commands.{Offers, SetsVerdict}
use Rattle.sok_engine.specs.declared.fault.ToolFault.{ToolFault}
use Rattle.sok_engine.specs.declared.fault.ToolFault.TheVariants as tool
use Rattle.sok_engine.specs.Faults.{of_book}
use Rattle.sok_store.specs.Faults.{IsOutside}
use Rattle.sok_book.specs.Records.{AreRecordsOf, pages_from, with_id}
use Rattle.sok_store.proofs.ReadRows.{length-records}
use Rattle.sok_store.specs.Calls.{Carries, ChangesBook, EndsOpen, FindsBook, IsCaused, MakesNone, Stops, id_number}
use Rattle.sok_store.specs.Calls as calls
use Rattle.sok_store.proofs.Calls.{finds_then, held, held_shown, keeps_turns, same_turns, shown, stops_later}
use Rattle.sok_store.proofs.Caused.{cause_before}
use Rattle.sok_keep.specs.Causes.{IsCausedFault}
use Rattle.sok_keep.proofs.Ending.{caused_more}
use Rattle.sok_settle.specs.declared.settle.Span.{Span}
use Rattle.sok_settle.specs.Going.{EndsAt, GoesWhere, HasGone, more, none}
use Rattle.sok_settle.specs.Keeping.{Keeping}
use Rattle.sok_settle.specs.Settles.{EndsSettling, SettlesBy, SettlesFirst, SettlesLevel, SettlesSome, WritesSettling, is_passed, is_past_limit, is_settled, is_too_long, level_leave, level_step, settle_status}
use Rattle.sok_settle.specs.Steps.{GoesThrough, IsRecordIn, MaySettle, StaysFrom, StepsLevel}
use Rattle.sok_settle.proofs.Going.{goes_other}
use Rattle.sok_settle.proofs.Stepping as stepping

-- ---- the other pages

set_else : {X : Type 0} (xs : List X) (n m : ℕ) (x : X) → (n ≡ m → ⊥) → slice_get (slice_set xs n x) m ≡ slice_get xs m
set_else [] n m x other = refl
set_else (y ∷ ys) zero zero x other = absurd (other refl)
set_else (y ∷ ys) zero (suc m) x other = refl
set_else (y ∷ ys) (suc n) zero x other = refl
set_else (y ∷ ys) (suc n) (suc m) x other = set_else ys n m x (λ same. other (ap suc same))

pub else_offered : (book after : Book) (id : ℕ) (letters : List Dir) (offer : Offer) → Offers book id letters offer after → (m : ℕ) → (id - 1 ≡ m → ⊥)
    → slice_get after m ≡ slice_get book m
else_offered book after id letters offer offers m other = ap (λ (b : Book). slice_get b m) offers.after_is ∙ set_else book (id - 1) m _ other

pub else_set : (book after : Book) (id : ℕ) (shown : Claim) → SetsVerdict book id shown after → (m : ℕ) → (id - 1 ≡ m → ⊥)
    → slice_get after m ≡ slice_get book m
else_set book after id shown sets m other = ap (λ (b : Book). slice_get b m) sets.after_is ∙ set_else book (id - 1) m _ other

else_by : (id : ℤ) (book after : Book) (rows : Rows) (shown : Claim) (line : List ℕ) (settled : Bool) → SettlesBy id rows shown book line settled after → (m : ℕ)
    → (id_number id - 1 ≡ m → ⊥) → slice_get after m ≡ slice_get book m
else_by id book after rows (claim.Pushes n) line settled (best, count, it, says, is) m other =
    else_set it.middle after (id_number id) _ it.set m other ∙ else_offered book it.middle (id_number id) it.letters it.offer it.offered m other
else_by id book after rows claim.Unsolvable line settled (unsolvable, sets, says, is) m other = else_set book after (id_number id) _ sets m other

pub else_settled : (keeping : Keeping) (limit : ℕ) (span : Span) (id : ℤ) (book after : Book) (line : List ℕ) (settled : Bool)
    → SettlesLevel keeping limit span id book line settled after → (m : ℕ) → (id_number id - 1 ≡ m → ⊥) → slice_get after m ≡ slice_get book m
else_settled keeping limit span id book after line settled (is_passed page there why says is same) m other = ap (λ (b : Book). slice_get b m) same
else_settled keeping limit span id book after line settled (is_settled page shown tried kept by) m other = else_by id book after page.level shown line settled by m other
else_settled keeping limit span id book after line settled (is_past_limit page least tried cut fewer says is same) m other = ap (λ (b : Book). slice_get b m) same
else_settled keeping limit span id book after line settled (is_too_long page letters pushes tried least many says is same) m other =
    ap (λ (b : Book). slice_get b m) same

-- ---- the record of a page

listed_at : (start n : ℕ) (book : Book) (kept : PageWithId) → slice_get (pages_from start book) n ≡ Some kept
    → (page : Page) × (slice_get book n ≡ Some page) × (kept ≡ with_id (start + n) page)
listed_at start n [] kept at = absurd (none-some kept at)
listed_at start zero (page ∷ book) kept at =
    let place : start ≡ start + 0 = omega arith in (page, refl, sym (same_Some (with_id start page) kept at) ∙ ap (λ n. with_id n page) place)
listed_at start (suc n) (page ∷ book) kept at =
    let (there, is, listed) = listed_at (start + 1) n book kept at in
    let place : start + 1 + n ≡ start + suc n = omega arith in
    (there, is, listed ∙ ap (λ n. with_id n there) place)

-- it is the record of the page there, also where only pages before it changed
record_in : (book middle : Book) (records : List PageWithId) (n : ℕ) (kept : PageWithId) → AreRecordsOf book records → slice_get records n ≡ Some kept
    → StaysFrom n book middle → IsRecordIn kept middle × (kept.id ≡ pos (n + 1))
record_in book middle records n kept are at stays =
    let (page, there, listed) = listed_at 1 n book kept (ap (λ (rs : List PageWithId). slice_get rs n) (sym are) ∙ at) in
    let place : 1 + n ≡ suc n = omega arith in
    let is : kept ≡ with_id (suc n) page = listed ∙ ap (λ k. with_id k page) place in
    let id : kept.id ≡ pos (suc n) = ap (λ (k : PageWithId). k.id) is in
    let number : id_number kept.id ≡ suc n = ap id_number id in
    let last : suc n ≡ n + 1 = omega arith in
    let here : page_at middle (suc n) ≡ Some kept.page = stays n (omega arith) ∙ there ∙ ap Some (sym (ap (λ (k : PageWithId). k.page) is)) in (
      record { id_is = id ∙ ap pos (sym number); there = ap (page_at middle) number ∙ here },
      id ∙ ap pos last,
    )

-- ---- level by level

module _ (keeping : Keeping) (limit : ℕ) (span : Span) where
  -- only pages before a level changed when those before it were gone through
  pub first_stays : (book : Book) (n : ℕ) (text : List ℕ) (all : Bool) (after : Book) → SettlesFirst keeping limit span book n text all after → StaysFrom n book after
  first_stays book _ _ _ _ none = λ m behind. refl
  first_stays book _ _ _ _ (more n text line all settled before after first level) = λ m behind.
      else_settled keeping limit span (pos (n + 1)) before after line settled level m (λ same. omega (arith, behind, same))
      ∙ first_stays book n text all before first m (omega (arith, behind))

  -- at a level at which the call ends it may be as it was
  pub stays : (n : ℕ) (book : Book) → (level_leave keeping limit span n).leaves book book
  stays n book = inl refl

  module _ (records : List PageWithId) where
    abbrev ArePages : Book → Type 0
    ArePages book = AreRecordsOf book records

    abbrev pub Gone : State → State → ℕ → Bool → Option (List ℕ) → Option (List ℕ) → Type 0
    Gone = stepping.Gone (level_step keeping limit span) (level_leave keeping limit span) stays ArePages

    abbrev pub MayGo : State → State → Type 0
    MayGo = stepping.MayGo (level_step keeping limit span) (level_leave keeping limit span) stays ArePages

    -- how the call on all levels treats the connection
    abbrev pub GoesOn : State → State → Option (List ℕ) → Option (List ℕ) → Result ℕ ToolFault → Type 0
    GoesOn old new first later result =
        GoesWhere {X = ℕ} ArePages old new (λ book after. WritesSettling keeping limit span book after first later result) (SettlesSome keeping limit span) result

    pub gone_none : (s : State) (held_now : Option (List ℕ)) → Gone s s 0 true held_now held_now
    gone_none = stepping.gone_none (level_step keeping limit span) (level_leave keeping limit span) stays ArePages

    -- all of them were gone through
    pub gone_all : (old new : State) (n : ℕ) (all : Bool) (status : ℕ) (first here : Option (List ℕ)) → n ≡ length records → status ≡ settle_status all
        → Gone old new n all first here → MayGo old new → GoesOn old new first here (Ok status)
    gone_all old new n all status first here end told_status =
        stepping.gone_all (level_step keeping limit span) (level_leave keeping limit span) stays ArePages (λ book after. EndsSettling keeping limit span book after first here (Ok status)) old new
        n all status first here (λ book after text are written. (end ∙ length-records book records are, refl, told_status, written))

    module _ (old mid new : State) (n : ℕ) (all : Bool) (kept : PageWithId) (at : slice_get records n ≡ Some kept) (first here later : Option (List ℕ))
        (gone : Gone old mid n all first here) (stop : MayGo old mid) where
      -- the next level is that of its record
      abbrev IsNext : Book → Type 0
      IsNext middle = IsRecordIn kept middle × (kept.id ≡ pos (n + 1))

      link : (book middle : Book) → ArePages book → HasGone (level_step keeping limit span) n all book middle first here → IsNext middle
      link book middle are it = record_in book middle records n kept are at (first_stays book n it.text all middle it.gone)

      as_next : (result : Result Bool ToolFault) → GoesThrough (IsRecordIn kept) keeping limit span kept.id mid new here later result
          → GoesThrough IsNext keeping limit span (pos (n + 1)) mid new here later result
      as_next result goes =
          goes_other mid new _ _ _ _ (λ book after of_book makes is. subst (λ i. StepsLevel keeping limit span i book after here later result) is.1 (makes is.0))
          (λ book after of_book makes is. subst (λ i. MaySettle keeping limit span i book after) is.1 (makes is.0)) result goes

      pub next_stops : (result : Result Bool ToolFault) → GoesThrough (IsRecordIn kept) keeping limit span kept.id mid new here later result → MayGo old new
      next_stops result goes =
          stepping.next_stops (level_step keeping limit span) (level_leave keeping limit span) stays ArePages old mid new n all first here later gone stop IsNext link result
          (as_next result goes)

      -- it was gone through
      pub gone_more : (settled : Bool) → GoesThrough (IsRecordIn kept) keeping limit span kept.id mid new here later (Ok settled) → Gone old new (n + 1) (all && settled) first later
      gone_more settled goes =
          stepping.gone_more (level_step keeping limit span) (level_leave keeping limit span) stays ArePages old mid new n all first here later gone stop IsNext link settled
          (as_next (Ok settled) goes)

      -- or the call ends at it
      pub gone_ended : (fault : ToolFault) → GoesThrough (IsRecordIn kept) keeping limit span kept.id mid new here later (Err fault) → GoesOn old new first later (Err fault)
      gone_ended fault goes =
          stepping.gone_ended (level_step keeping limit span) (level_leave keeping limit span) stays ArePages old mid new n all first here later gone stop IsNext link
          (λ book after. EndsSettling keeping limit span book after first later (Err fault)) fault
          (λ book after k text every before ends. ended book after k text every before first later fault ends) (as_next (Err fault) goes)
        where
          ended : (book after : Book) (k : ℕ) (text : List ℕ) (every : Bool) (before : Book) (old new : Option (List ℕ)) (f : ToolFault)
              → EndsAt (level_step keeping limit span k) (level_leave keeping limit span k) text before after old new f → EndsSettling keeping limit span book after old new (Err f) k text every before
          ended book after k text every before old new tool.BadLimit never = absurd never
          ended book after k text every before old new f ends = ends

    -- ---- the whole book

    module _ (old mid new : State) (one : Stops old mid MakesNone) (found : FindsBook old mid (λ book. AreRecordsOf book records)) (first later : Option (List ℕ))
        (result : Result ℕ ToolFault) (goes : GoesOn mid new first later result) where
      early : HasCleanDisk new → HasCleanDisk mid
      early clean = omega (arith, clean, goes.stop.clean)

      whole_stops : Stops old new (SettlesSome keeping limit span)
      whole_stops = stops_later old mid new (SettlesSome keeping limit span) one _ (λ clean db made book shows.
          let (are, stores) = found (early clean) book (held_shown old book shows) in
          let (after, makes, has) = made book (shown mid book stores) in (after, makes are, has)) goes.stop

      whole_turns : ChangesBook old new (λ book after. WritesSettling keeping limit span book after first later result)
      whole_turns = finds_then early (λ book after are makes. makes are) found goes.turns

      whole_open : OnOk result (EndsOpen old new)
      whole_open = go result goes.done
        where
          go : (r : Result ℕ ToolFault) → OnOk r (Carries mid new (λ book after. AreRecordsOf book records → WritesSettling keeping limit span book after first later result))
              → OnOk r (EndsOpen old new)
          go (Ok status) done = λ clean book holds.
              let (are, stores) = found (early clean) book holds in
              let (after, makes, shows_after, up) = done clean book (shown mid book stores) in up stores.1.0
          go (Err fault) done = tt

      whole_caused : IfErr result (IsCausedFault old new (SettlesSome keeping limit span))
      whole_caused = go result goes.cause
        where
          go : (r : Result ℕ ToolFault) → IfErr r (IsCausedFault mid new (λ book after. AreRecordsOf book records → SettlesSome keeping limit span book after))
              → IfErr r (IsCausedFault old new (SettlesSome keeping limit span))
          go (Ok status) cause = tt
          go (Err fault) cause = λ told_fault same clean book holds.
              let (are, stores) = found (early clean) book holds in
              elim (cause told_fault same clean book (held mid book stores)) [
                | inl (after, makes, big) ↦ inl (after, makes are, big)
                | inr why ↦ inr (cause_before old mid new _ _ one goes.stop clean why)
              ]

      -- all that is promised of it
      pub whole : ChangesBook old new (λ book after. WritesSettling keeping limit span book after first later result) × OnOk result (EndsOpen old new)
          × Stops old new (SettlesSome keeping limit span) × IfErr result (IsCausedFault old new (SettlesSome keeping limit span))
      whole = (whole_turns, whole_open, whole_stops, whole_caused)

  -- ---- without records

  -- the limit is refused
  pub bad_turns : (s : State) (held_now : Option (List ℕ)) → IsBadLimit limit
      → ChangesBook s s (λ book after. WritesSettling keeping limit span book after held_now held_now (Err tool.BadLimit))
  bad_turns s held_now bad =
      same_turns _ (λ book. record { count = 0; text = []; all = true; before = book; gone = none; ended = (bad, refl, refl, Keeps-refl held_now) })

  -- the levels are not read, for a cause outside
  unlisted : (book : Book) (held_now : Option (List ℕ)) (fault : BookFault) → IsOutside fault
      → WritesSettling keeping limit span book book held_now held_now (Err (of_book fault))
  unlisted book held_now fault (inl memory) = subst (λ f. WritesSettling keeping limit span book book held_now held_now (Err (of_book f))) (sym memory)
      (record { count = 0; text = []; all = true; before = book; gone = none; ended = (inl refl, Appends-nil held_now) })
  unlisted book held_now fault (inr database) = subst (λ f. WritesSettling keeping limit span book book held_now held_now (Err (of_book f))) (sym database)
      (record { count = 0; text = []; all = true; before = book; gone = none; ended = (inl refl, Appends-nil held_now) })

  pub unlisted_turns : (old new : State) (held_now : Option (List ℕ)) (fault : BookFault) → calls.KeepsBook old new (λ _. IsOutside fault)
      → ChangesBook old new (λ book after. WritesSettling keeping limit span book after held_now held_now (Err (of_book fault)))
  unlisted_turns old new held_now fault = keeps_turns _ (λ book why. unlisted book held_now fault why)

  pub unlisted_caused : (old new : State) (fault : BookFault) → IsCaused old new MakesNone fault
      → IsCausedFault old new (SettlesSome keeping limit span) (of_book fault)
  unlisted_caused old new fault caused = caused_more old new (SettlesSome keeping limit span) MakesNone (λ book after none_made. absurd none_made) fault caused

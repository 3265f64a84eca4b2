-- Steps that are gone one after another.
use Rattle.std.proofs.Common.{ℕ, ◌+◌, ◌&&◌, inl, inr, List, [], ◌++◌, Option, Result, Ok, Err, Bool, true, IfErr, arith, subst, sym, take}
use Rattle.std.specs.Io.KnownBytes.{Appends}
use Rattle.std.proofs.KnownBytes.{Appends-kept, Appends-nil, Appends-trans}
use Rattle.sqlite.specs.State.{State, HasCleanDisk}
use Rattle.sqlite.proofs.StateLemmas.{survives_then}
use Rattle.sok_book.specs.declared.fault.BookFault.TheVariants as refusal
use Rattle.sok_book.specs.Books.{Book, IsTrueBook}
use Rattle.sok_book.proofs.Laws.{CommandsKeepTruth-all}
use Rattle.sok_engine.specs.declared.fault.ToolFault.{ToolFault}
use Rattle.sok_engine.specs.declared.fault.ToolFault.TheVariants as tool
use Rattle.sok_store.specs.Calls.{Stops}
use Rattle.sok_store.specs.Histories.{IsMadeOf}
use Rattle.sok_store.specs.Histories as histories
use Rattle.sok_store.proofs.Calls.{turns_more, turns_then}
use Rattle.sok_store.proofs.Caused.{cause_before}
use Rattle.sok_keep.specs.Causes.{IsCausedFault}
use Rattle.sok_settle.specs.Going.{EndsAt, GoesFirst, GoesSome, GoesStep, GoesUntil, GoesWhere, HasGone, Leave, MayStep, Step, StepsOnce, more, none}
use Rattle.sok_settle.proofs.Going.{Leads, same_leads}

module _ (StepAt : ℕ → Step) (LeaveAt : ℕ → Leave) where
  -- ---- commands

  module _ (by_step : (n : ℕ) (book before after : Book) (line : List ℕ) (well : Bool) → IsMadeOf book before → StepAt n before line well after → IsMadeOf book after)
      (by_leave : (n : ℕ) (book before after : Book) → IsMadeOf book before → (LeaveAt n).leaves before after → IsMadeOf book after) where
    first_made : (book : Book) (n : ℕ) (text : List ℕ) (all : Bool) (after : Book) → GoesFirst StepAt book n text all after → IsMadeOf book after
    first_made book _ _ _ _ none = histories.none
    first_made book _ _ _ _ (more n text line all well before after first step) =
        by_step n book before after line well (first_made book n text all before first) step

    -- what some of the steps make is what commands make
    pub some_made : (book after : Book) → GoesSome StepAt LeaveAt book after → IsMadeOf book after
    some_made book after (n, text, all, before, first, left) = by_leave n book before after (first_made book n text all before first) left

  -- ---- one step more

  module _ (stays : (n : ℕ) (book : Book) → (LeaveAt n).leaves book book) where
    -- however the call ends at a step, some of them were gone
    pub ends_some : (book before after : Book) (n : ℕ) (text : List ℕ) (all : Bool) (old new : Option (List ℕ)) (fault : ToolFault)
        → GoesFirst StepAt book n text all before → EndsAt (StepAt n) (LeaveAt n) text before after old new fault → GoesSome StepAt LeaveAt book after
    ends_some book before after n text all old new tool.WriteFailed first (inl (line, well, step, front)) =
        (n + 1, text ++ line, all && well, after, more n text line all well before after first step, stays (n + 1) after)
    ends_some book before after n text all old new tool.WriteFailed first (inr (why, same, written)) =
        (n, text, all, before, first, subst (λ b. (LeaveAt n).leaves before b) (sym same) (stays n before))
    ends_some book before after n text all old new tool.Memory first (left, written) = (n, text, all, before, first, left)
    ends_some book before after n text all old new (tool.Book refusal.Database) first (left, written) = (n, text, all, before, first, left)
    ends_some book before after n text all old new fault first never = absurd never

    grown : (book middle after : Book) (n : ℕ) (all well : Bool) (line : List ℕ) (first here later : Option (List ℕ)) → HasGone StepAt n all book middle first here
        → StepAt n middle line well after → Appends here later line → HasGone StepAt (n + 1) (all && well) book after first later
    grown book middle after n all well line first here later it step appends = record {
      text = it.text ++ line;
      gone = more n it.text line all well middle after it.gone step;
      written = Appends-trans first here later it.text line it.written appends;
    }

    -- whatever may be made at the next one
    some_more : (book middle after : Book) (n : ℕ) (all : Bool) (first here : Option (List ℕ)) → HasGone StepAt n all book middle first here
        → MayStep (StepAt n) (LeaveAt n) middle after → GoesSome StepAt LeaveAt book after
    some_more book middle after n all first here it (inl left) = (n, it.text, all, middle, it.gone, left)
    some_more book middle after n all first here it (inr (line, well, step)) =
        (n + 1, it.text ++ line, all && well, after, more n it.text line all well middle after it.gone step, stays (n + 1) after)

    -- how the call ends at it
    ends_at : (book middle after : Book) (n : ℕ) (all : Bool) (first here later : Option (List ℕ)) (fault : ToolFault)
        → (it : HasGone StepAt n all book middle first here) → StepsOnce (StepAt n) (LeaveAt n) middle after here later (Err fault)
        → EndsAt (StepAt n) (LeaveAt n) it.text middle after first later fault
    ends_at book middle after n all first here later tool.WriteFailed it (inl (line, well, step, (k, under, front))) =
        inl (line, well, step, (k, under, Appends-trans first here later it.text (take k line) it.written front))
    ends_at book middle after n all first here later tool.WriteFailed it (inr (why, same, keeps)) =
        inr (why, same, Appends-kept first here later it.text it.written keeps)
    ends_at book middle after n all first here later tool.Memory it (left, keeps) = (left, Appends-kept first here later it.text it.written keeps)
    ends_at book middle after n all first here later (tool.Book refusal.Database) it (left, keeps) =
        (left, Appends-kept first here later it.text it.written keeps)
    ends_at book middle after n all first here later fault it never = absurd never

    -- ---- all of them, of the books of which something is true

    module _ (P : Book → Type 0) where
      abbrev MakesSome : Book → Book → Type 0
      MakesSome book after = P book → GoesSome StepAt LeaveAt book after

      abbrev pub Gone : State → State → ℕ → Bool → Option (List ℕ) → Option (List ℕ) → Type 0
      Gone old new n all first here = Leads old new (λ book after. P book → HasGone StepAt n all book after first here)

      abbrev pub MayGo : State → State → Type 0
      MayGo old new = Stops old new MakesSome

      -- how the whole call treats the connection, where it may end so
      abbrev pub GoesAll : (Book → Book → ℕ → List ℕ → Bool → Book → Type 0) → State → State → Result ℕ ToolFault → Type 0
      GoesAll Ends old new result =
          GoesWhere {X = ℕ} P old new (λ book after. GoesUntil StepAt (Ends book after) book) (GoesSome StepAt LeaveAt) result

      pub gone_none : (s : State) (held_now : Option (List ℕ)) → Gone s s 0 true held_now held_now
      gone_none s held_now = same_leads s _ (λ book kept p. record { text = []; gone = none; written = Appends-nil held_now })

      -- all of them were gone
      pub gone_all : (Ends : Book → Book → ℕ → List ℕ → Bool → Book → Type 0) (old new : State) (n : ℕ) (all : Bool) (status : ℕ) (first here : Option (List ℕ))
          → ((book after : Book) (text : List ℕ) → P book → Appends first here text → Ends book after n text all after)
          → Gone old new n all first here → MayGo old new → GoesAll Ends old new (Ok status)
      gone_all Ends old new n all status first here ends (turns, carries) stop =
          let until : (book after : Book) → P book → HasGone StepAt n all book after first here → GoesUntil StepAt (Ends book after) book =
          λ book after p it. record { count = n; text = it.text; all = all; before = after; gone = it.gone; ended = ends book after it.text p it.written } in
          record {
            turns = turns_more (λ book after made p. until book after p (made p)) turns;
            done = λ clean book shows.
                let (after, made, shown_after, stays) = carries clean book shows in (after, λ p. until book after p (made p), shown_after, stays);
            stop = stop;
            cause = tt;
          }

      module _ (old mid new : State) (n : ℕ) (all : Bool) (first here later : Option (List ℕ)) (gone : Gone old mid n all first here) (stop : MayGo old mid)
          (Q : Book → Type 0) (link : (book middle : Book) → P book → HasGone StepAt n all book middle first here → Q middle) where
        module _ (result : Result Bool ToolFault) (goes : GoesStep Q (StepAt n) (LeaveAt n) mid new here later result) where
          early : HasCleanDisk new → HasCleanDisk mid
          early clean = omega (arith, clean, goes.stop.clean)

          made_some : (book middle after : Book) → (P book → HasGone StepAt n all book middle first here)
              → (Q middle → MayStep (StepAt n) (LeaveAt n) middle after) → MakesSome book after
          made_some book middle after made may p = let it = made p in some_more book middle after n all first here it (may (link book middle p it))

          pub next_stops : MayGo old new
          next_stops = survives_then old mid new _ _ _ (λ _ db made. made) (λ clean db may book shows.
              let (middle, made, shows_mid, up) = gone.1 (early clean) book shows in
              let (after, makes, has) = may middle shows_mid in
              (after, made_some book middle after made makes, has)) stop goes.stop

          next_caused : IfErr result (IsCausedFault old new MakesSome)
          next_caused = go result goes.cause
            where
              go : (r : Result Bool ToolFault) → IfErr r (IsCausedFault mid new (λ book after. Q book → MayStep (StepAt n) (LeaveAt n) book after))
                  → IfErr r (IsCausedFault old new MakesSome)
              go (Ok x) cause = tt
              go (Err fault) cause = λ told_fault same clean book holds.
                  let (middle, made, held_mid) = gone.0 (early clean) book holds in
                  elim (cause told_fault same clean middle held_mid) [
                    | inl (after, makes, big) ↦ inl (after, made_some book middle after made makes, big)
                    | inr why ↦ inr (cause_before old mid new _ _ stop goes.stop clean why)
                  ]

        -- the next one was gone
        pub gone_more : (well : Bool) → GoesStep Q (StepAt n) (LeaveAt n) mid new here later (Ok well) → Gone old new (n + 1) (all && well) first later
        gone_more well goes =
            let before : HasCleanDisk new → HasCleanDisk mid = λ clean. omega (arith, clean, goes.stop.clean) in
            let next : (book middle after : Book) → (P book → HasGone StepAt n all book middle first here)
            → (Q middle → StepsOnce (StepAt n) (LeaveAt n) middle after here later (Ok well)) → P book → HasGone StepAt (n + 1) (all && well) book after first later =
            λ book middle after made makes p.
            let it = made p in
            let (line, step, appends) = makes (link book middle p it) in grown book middle after n all well line first here later it step appends in (
              turns_then before next gone.0 goes.turns,
              λ clean book shows.
                  let (middle, made, shows_mid, up_mid) = gone.1 (before clean) book shows in
                  let (after, makes, shows_after, up_after) = goes.done clean middle shows_mid in
                  (after, next book middle after made makes, shows_after, λ up. up_after (up_mid up)),
            )

        -- or the call ends at it
        pub gone_ended : (Ends : Book → Book → ℕ → List ℕ → Bool → Book → Type 0) (fault : ToolFault)
            → ((book after : Book) (k : ℕ) (text : List ℕ) (every : Bool) (before : Book) → EndsAt (StepAt k) (LeaveAt k) text before after first later fault
            → Ends book after k text every before)
            → GoesStep Q (StepAt n) (LeaveAt n) mid new here later (Err fault) → GoesAll Ends old new (Err fault)
        gone_ended Ends fault ends goes = record {
          turns = turns_then (early (Err fault) goes) (λ book middle after made makes p.
              let it = made p in
              let at = ends_at book middle after n all first here later fault it (makes (link book middle p it)) in
              record { count = n; text = it.text; all = all; before = middle; gone = it.gone; ended = ends book after n it.text all middle at })
              gone.0 goes.turns;
          done = tt;
          stop = next_stops (Err fault) goes;
          cause = next_caused (Err fault) goes;
        }

-- ---- truth

-- commands keep a true book true
pub made_true : (book after : Book) → IsMadeOf book after → IsTrueBook book → IsTrueBook after
made_true book _ histories.none truth = truth
made_true book _ (histories.more before after made command) truth = CommandsKeepTruth-all before after (made_true book before made truth) command

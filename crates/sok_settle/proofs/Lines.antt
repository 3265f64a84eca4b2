-- Lines of a text that are offered one after another.
use Rattle.std.proofs.Common.{ℕ, ◌≡◌, ◌∙◌, ◌+◌, ◌<◌, ◌≤◌, ◌&&◌, ◌==◌, zero, suc, inl, inr, List, [], ◌∷◌, ◌++◌, Option, Some, None, Result, Ok, Err, Bool, true, false}
use Rattle.std.proofs.Common.{IfErr, IfSome, IsSomeAnd, OnOk, ap, arith, cond, filter, length, not, refl, slice_get, subst, sym}
use Rattle.std.proofs.lemmas.Bool.{eqb-true}
use Rattle.std.proofs.lemmas.List.{append_assoc, append-nil, length_push, nil_from_length}
use Rattle.std.proofs.KnownBytes.{Appends-nil, Keeps-refl}
use Rattle.std.specs.Str.Lines.{lines}
use Rattle.sqlite.specs.State.{State}
use Rattle.sok_text.specs.Lines.{after_line, first_line}
use Rattle.sok_text.proofs.Lines.{lines-first}
use Rattle.sok_book.specs.Books.{Book}
use Rattle.sok_engine.specs.declared.fault.ToolFault.{ToolFault}
use Rattle.sok_engine.specs.declared.fault.ToolFault.TheVariants as tool
use Rattle.sok_engine.specs.declared.input.InputFault.{InputFault}
use Rattle.sok_engine.specs.declared.input.InputFault.TheVariants as input
use Rattle.sok_engine.specs.Faults.{of_input}
use Rattle.sok_engine.specs.Limits.{input_limit}
use Rattle.sok_store.specs.Calls.{Carries, ChangesBook, KeepsOpen, Stops}
use Rattle.sok_store.proofs.Calls.{same_turns, stops_less, stops_same, turns_more}
use Rattle.sok_keep.specs.Causes.{IsCausedFault, TakesIn}
use Rattle.sok_keep.proofs.Adding.{some_longer}
use Rattle.sok_keep.proofs.Treating.{carries_open}
use Rattle.sok_settle.specs.Going.{EndsAt, GoesStep, GoesWhere, IsAnyBook, none}
use Rattle.sok_settle.specs.Offers.{AnswersOffer, EndsOffers, OffersBytes, OffersSome, OffersUntil, Stays, WritesOffers, full_lines, is_blank_line, line_id, line_step, line_text, offers_status}
use Rattle.sok_settle.proofs.Stepping as stepping

-- ---- the lines of a text

module _ (rest line next : List ℕ) (some : 0 < length rest) (first : line ≡ first_line rest) (behind : next ≡ after_line rest) where
  cut_off : (blank : Bool) → is_blank_line line ≡ blank → full_lines rest ≡ cond (not blank) (line ∷ full_lines next) (full_lines next)
  cut_off blank is =
      let cut : lines rest ≡ line ∷ lines next = lines-first rest some ∙ (λ i. sym first i ∷ lines (sym behind i)) in
      ap (λ ls. filter (λ l. not (is_blank_line l)) ls) cut ∙ ap (λ b. cond (not b) (line ∷ full_lines next) (full_lines next)) is

-- an element behind a front
at_front : {X : Type 0} (front : List X) (x : X) (more : List X) (n : ℕ) → n ≡ length front → slice_get (front ++ x ∷ more) n ≡ Some x
at_front [] x more zero is = refl
at_front [] x more (suc n) is = absurd (omega (arith, is))
at_front (y ∷ front) x more zero is = absurd (omega (arith, is))
at_front (y ∷ front) x more (suc n) is = at_front front x more n (omega (arith, is))

-- ---- the lines one after another

module _ (bytes : List ℕ) where
  abbrev step : ℕ → Book → List ℕ → Bool → Book → Type 0
  step = line_step (full_lines bytes)

  pub stays : (n : ℕ) (book : Book) → Stays.leaves book book
  stays n book = refl

  -- the lines in front of a rest were gone through
  pub record IsAt (old new : State) (rest : List ℕ) (all : Bool) (first here : Option (List ℕ)) : Type 0 where
    pub front : List (List ℕ)
    pub whole : full_lines bytes ≡ front ++ full_lines rest
    pub gone : stepping.Gone step (λ n. Stays) stays IsAnyBook old new (length front) all first here
    pub stop : stepping.MayGo step (λ n. Stays) stays IsAnyBook old new

  abbrev pub GoesLines : State → State → Option (List ℕ) → Option (List ℕ) → Result ℕ ToolFault → Type 0
  GoesLines old new first later result =
      GoesWhere {X = ℕ} IsAnyBook old new (λ book after. OffersUntil bytes book after first later result) (OffersSome (full_lines bytes)) result

  pub at_start : (s : State) (held : Option (List ℕ)) → IsAt s s bytes true held held
  at_start s held = record {
    front = [];
    whole = refl;
    gone = stepping.gone_none step (λ n. Stays) stays IsAnyBook s held;
    stop = stops_same s _;
  }

  -- all of them were
  pub at_end : (old new : State) (rest : List ℕ) (all : Bool) (status : ℕ) (first here : Option (List ℕ)) → length bytes ≤ input_limit
      → length rest == 0 ≡ true
      → status ≡ offers_status all → IsAt old new rest all first here → GoesLines old new first here (Ok status)
  at_end old new rest all status first here few empty told it =
      let all_lines : full_lines bytes ≡ it.front =
      it.whole ∙ ap (λ r. it.front ++ full_lines r) (nil_from_length rest (eqb-true (length rest) 0 empty)) ∙ append-nil it.front in
      stepping.gone_all step (λ n. Stays) stays IsAnyBook (λ book after. EndsOffers bytes book after first here (Ok status)) old new (length it.front) all status
      first here (λ book after text any written. (few, sym (ap length all_lines), refl, told, written)) it.gone it.stop

  module _ (old mid : State) (rest line next : List ℕ) (all : Bool) (first here : Option (List ℕ)) (it : IsAt old mid rest all first here)
      (some : 0 < length rest) (first_is : line ≡ first_line rest) (behind : next ≡ after_line rest) where
    -- a blank line is passed over
    pub at_blank : is_blank_line line ≡ true → IsAt old mid next all first here
    at_blank blank = record {
      front = it.front;
      whole = it.whole ∙ ap (λ ls. it.front ++ ls) (cut_off rest line next some first_is behind true blank);
      gone = it.gone;
      stop = it.stop;
    }

    module _ (new : State) (later : Option (List ℕ)) (full : is_blank_line line ≡ false) where
      whole_more : full_lines bytes ≡ it.front ++ line ∷ full_lines next
      whole_more = it.whole ∙ ap (λ ls. it.front ++ ls) (cut_off rest line next some first_is behind false full)

      as_step : (result : Result Bool ToolFault) → GoesStep IsAnyBook (AnswersOffer (line_id line) (line_text line)) Stays mid new here later result
          → GoesStep IsAnyBook (step (length it.front)) Stays mid new here later result
      as_step result goes =
          let at : slice_get (full_lines bytes) (length it.front) ≡ Some line =
          ap (λ ls. slice_get ls (length it.front)) whole_more ∙ at_front it.front line (full_lines next) (length it.front) refl in
          subst (λ o. GoesStep IsAnyBook (λ book told taken after. IsSomeAnd o (λ l. AnswersOffer (line_id l) (line_text l) book told taken after)) Stays mid new
          here later result) (sym at) goes

      -- a line was answered
      pub at_next : (taken : Bool) → GoesStep IsAnyBook (AnswersOffer (line_id line) (line_text line)) Stays mid new here later (Ok taken)
          → IsAt old new next (all && taken) first later
      at_next taken goes =
          let stepped = as_step (Ok taken) goes in
          let grown : length it.front + 1 ≡ length (it.front ++ line ∷ []) = sym (length_push it.front line) in record {
            front = it.front ++ line ∷ [];
            whole = whole_more ∙ sym (append_assoc it.front (line ∷ []) (full_lines next));
            gone = subst (λ n. stepping.Gone step (λ n. Stays) stays IsAnyBook old new n (all && taken) first later) grown
                (stepping.gone_more step (λ n. Stays) stays IsAnyBook old mid new (length it.front) all first here later it.gone it.stop IsAnyBook (λ book middle any gone. tt)
                taken stepped);
            stop = stepping.next_stops step (λ n. Stays) stays IsAnyBook old mid new (length it.front) all first here later it.gone it.stop IsAnyBook
                (λ book middle any gone. tt) (Ok taken) stepped;
          }

      -- or the call ends at it
      pub at_fault : (fault : ToolFault) → GoesStep IsAnyBook (AnswersOffer (line_id line) (line_text line)) Stays mid new here later (Err fault)
          → GoesLines old new first later (Err fault)
      at_fault fault goes =
          stepping.gone_ended step (λ n. Stays) stays IsAnyBook old mid new (length it.front) all first here later it.gone it.stop IsAnyBook
          (λ book middle any gone. tt) (λ book after. EndsOffers bytes book after first later (Err fault)) fault
          (λ book after k text every before ends. ended book after k text every before fault ends) (as_step (Err fault) goes)
        where
          ended : (book after : Book) (k : ℕ) (text : List ℕ) (every : Bool) (before : Book) (f : ToolFault)
              → EndsAt (step k) Stays text before after first later f → EndsOffers bytes book after first later (Err f) k text every before
          ended book after k text every before tool.ReadFailed never = absurd never
          ended book after k text every before tool.TooMuch never = absurd never
          ended book after k text every before f ends = ends

  -- ---- those that a reader has left

  module _ (known : Option (List ℕ)) (are : IfSome known (λ all. bytes ≡ all)) (old new : State) (first later : Option (List ℕ)) (result : Result ℕ ToolFault)
      (goes : GoesLines old new first later result) where
    read_turns : ChangesBook old new (λ book after. WritesOffers book known after first later result)
    read_turns = turns_more (λ book after made. (bytes, are, made tt)) goes.turns

    read_open : OnOk result (KeepsOpen old new)
    read_open = go result goes.done
      where
        go : (r : Result ℕ ToolFault) → OnOk r (Carries old new (λ book after. IsAnyBook book → OffersUntil bytes book after first later result))
            → OnOk r (KeepsOpen old new)
        go (Ok status) done = carries_open old new _ done
        go (Err fault) done = tt

    read_stops : Stops old new (OffersBytes known)
    read_stops = stops_less old new _ (OffersBytes known) (λ book after made. (bytes, are, made tt)) goes.stop

    read_caused : IfErr result (IsCausedFault old new (OffersBytes known))
    read_caused = go result goes.cause
      where
        go : (r : Result ℕ ToolFault) → IfErr r (IsCausedFault old new (λ book after. IsAnyBook book → OffersSome (full_lines bytes) book after))
            → IfErr r (IsCausedFault old new (OffersBytes known))
        go (Ok status) cause = tt
        go (Err fault) cause = λ told same clean book holds. elim (cause told same clean book holds) [
          | inl (after, makes, big) ↦ inl (after, (bytes, are, makes tt), big)
          | inr why ↦ inr why
        ]

    -- all that is promised of it
    pub read_takes : TakesIn old new (λ book after. WritesOffers book known after first later result) (OffersBytes known) result
    read_takes = record { writes = read_turns; keeps_open = read_open; stop = read_stops; cause = read_caused }

-- ---- they are not read

any_text : (known : Option (List ℕ)) → (text : List ℕ) × IfSome known (λ all. text ≡ all)
any_text None = ([], tt)
any_text (Some text) = (text, refl)

unread : (book : Book) (known held : Option (List ℕ)) (fault : InputFault) → (fault ≡ input.TooMuch → IfSome known (λ all. input_limit < length all))
    → WritesOffers book known book held held (Err (of_input fault))
unread book known held input.Memory much =
    let (bytes, told) = any_text known in
    (bytes, told, record { count = 0; text = []; all = true; before = book; gone = none; ended = (refl, Appends-nil held) })
unread book known held input.ReadFailed much =
    let (bytes, told) = any_text known in
    (bytes, told, record { count = 0; text = []; all = true; before = book; gone = none; ended = (refl, refl, Keeps-refl held) })
unread book known held input.TooMuch much =
    let (bytes, told, longer) = some_longer known (much refl) in
    (bytes, told, record { count = 0; text = []; all = true; before = book; gone = none; ended = (longer, refl, refl, Keeps-refl held) })

pub unread_turns : (s : State) (known held : Option (List ℕ)) (fault : InputFault)
    → (fault ≡ input.TooMuch → IfSome known (λ all. input_limit < length all))
    → ChangesBook s s (λ book after. WritesOffers book known after held held (Err (of_input fault)))
unread_turns s known held fault much = same_turns _ (λ book. unread book known held fault much)

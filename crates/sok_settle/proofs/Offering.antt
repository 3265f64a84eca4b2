-- A level is settled by the answer of its search: what becomes of the book, call by call.
use Rattle.std.proofs.Common.{ℕ, ℤ, ◌≡◌, ◌⊎◌, ◌<◌, ◌≤◌, inl, inr, List, Bool, true, false, Option, Result, Err, arith, length, refl, subst, sym}
use Rattle.std.specs.Io.KnownBytes.{Keeps}
use Rattle.std.proofs.KnownBytes.{Keeps-refl}
use Rattle.sqlite.specs.State.{State, HasCleanDisk}
use Rattle.sqlite.proofs.StateLemmas.{survives_then}
use Rattle.sok_rules.specs.declared.cell.Dir.{Dir}
use Rattle.sok_rules.specs.Limits.{letter_limit}
use Rattle.sok_rules.specs.Squares.{Rows}
use Rattle.sok_rules.specs.Play.{IsFewest, IsUnsolvable}
use Rattle.sok_cert.specs.Claim.{Claim}
use Rattle.sok_cert.specs.Claim.TheVariants as claim
use Rattle.sok_search.specs.Findings.{IsFewer}
use Rattle.sok_search.specs.Outcomes.{IsCutShort, IsLeastSolution}
use Rattle.sok_book.specs.declared.fault.BookFault.{BookFault}
use Rattle.sok_book.specs.Books.{Book, Page}
use Rattle.sok_book.specs.Commands.{SetsVerdict, best_pushes}
use Rattle.sok_book.specs.Refusals.{IsNotOffered}
use Rattle.sok_engine.specs.declared.fault.ToolFault.{ToolFault}
use Rattle.sok_engine.specs.declared.fault.ToolFault.TheVariants as tool
use Rattle.sok_engine.specs.Faults.{of_book}
use Rattle.sok_store.specs.Faults.{IsOutside}
use Rattle.sok_store.specs.Rows.{IsKeptBook}
use Rattle.sok_store.specs.Calls.{IsCaused, Stops, StoresChange, id_number}
use Rattle.sok_store.specs.Calls as calls
use Rattle.sok_store.specs.Verdicts.{IsNotSet}
use Rattle.sok_store.specs.Standing.{OffersTelling}
use Rattle.sok_store.specs.declared.standing.Standing.{Standing}
use Rattle.sok_store.proofs.Calls.{held, held_shown, shown, stops_less, stops_same}
use Rattle.sok_store.proofs.Caused.{cause_before}
use Rattle.sok_keep.proofs.Ending.{caused_more}
use Rattle.sok_settle.specs.declared.settle.Span.{Span}
use Rattle.sok_settle.specs.Going.{MayStep}
use Rattle.sok_settle.specs.Keeping.{Keeping, TellsKept}
use Rattle.sok_settle.specs.Lines.{TellsFault, TellsLine, fault_line}
use Rattle.sok_settle.specs.Settles.{EndsLevel, SettlesBy, SettlesLevel, is_past_limit, is_settled, is_too_long, IsTried, leave_of_level, limit_line, optimal_line, too_long, unsolvable_line}
use Rattle.sok_settle.specs.Steps.{AreFewest, GoesBy, GoesThrough, leave_of_kept}
use Rattle.sok_settle.proofs.Going.{changes_leads, left_steps, memory_goes, same_leads, step_other, told_goes, unwritten_goes}
use Rattle.sok_settle.proofs.Levels.{HasLeast, best_stays, best_told, never_differs, never_refused, never_solved, offered_best}

-- ---- without a change

module _ (keeping : Keeping) (limit : ℕ) (span : Span) (id : ℤ) (page : Page) where
  abbrev through_tried : State → State → Option (List ℕ) → Option (List ℕ) → Result Bool ToolFault → Type 0
  through_tried = GoesThrough (IsTried span id page) keeping limit span id

  -- a line is told of a level that is not settled
  stays_goes : (s : State) (line : List ℕ) (held later : Option (List ℕ)) (result : Result Bool ToolFault)
      → ((book : Book) → IsTried span id page book → SettlesLevel keeping limit span id book line false book) → TellsLine line false held later result
      → through_tried s s held later result
  stays_goes s line held later result stays tells =
      told_goes (SettlesLevel keeping limit span id) (leave_of_level keeping limit span id) (IsTried span id page) s s line false held later result
      (same_leads s _ (λ book kept tried. stays book tried)) (stops_same s _) tells

  -- memory is refused
  memory_refused : (s : State) (held later : Option (List ℕ)) → Keeps held later → through_tried s s held later (Err tool.Memory)
  memory_refused s held later keeps =
      memory_goes (SettlesLevel keeping limit span id) (leave_of_level keeping limit span id) (IsTried span id page) s s held later tool.Memory refl keeps
      (λ clean book holds. (book, λ tried. inl refl, holds)) (stops_same s _)

  pub unsearched_goes : (s : State) (held : Option (List ℕ)) (fault : ToolFault) → fault ≡ tool.Memory → through_tried s s held held (Err fault)
  unsearched_goes s held fault memory =
      subst (λ f. through_tried s s held held (Err f)) (sym memory) (memory_refused s held held (Keeps-refl held))

  -- the line of its fault is told, or memory is refused for it
  fault_goes : (s : State) (fault : ToolFault) (held later : Option (List ℕ)) (result : Result Bool ToolFault)
      → ((book : Book) → IsTried span id page book → SettlesLevel keeping limit span id book (fault_line id fault) false book)
      → TellsFault id fault held later result → through_tried s s held later result
  fault_goes s fault held later result stays (inl (is, keeps)) =
      subst (λ (r : Result Bool ToolFault). through_tried s s held later r) (sym is) (memory_refused s held later keeps)
  fault_goes s fault held later result stays (inr tells) = stays_goes s (fault_line id fault) held later result stays tells

  pub limit_goes : (s : State) (least : ℕ) (held later : Option (List ℕ)) (result : Result Bool ToolFault)
      → IsCutShort page.level limit limit least → IsFewer (best_pushes page) least
      → TellsLine (limit_line id limit least) false held later result → through_tried s s held later result
  limit_goes s least held later result cut fewer tells =
      stays_goes s (limit_line id limit least) held later result (λ book tried. is_past_limit page least tried cut fewer refl refl refl) tells

  pub too_long_goes : (s : State) (letters : List Dir) (pushes : ℕ) (held later : Option (List ℕ)) (result : Result Bool ToolFault)
      → IsLeastSolution page.level letters pushes → letter_limit < length letters → TellsFault id too_long held later result
      → through_tried s s held later result
  too_long_goes s letters pushes held later result least many tells =
      fault_goes s too_long held later result (λ book tried. is_too_long page letters pushes tried least many refl refl refl) tells

  -- ---- its certificate

  module _ (shown : Claim) where
    -- it is not kept
    pub unkept_goes : (X : Type 0) (s : State) (fault : ToolFault) (held : Option (List ℕ)) → TellsKept {X = X} keeping limit id page.level shown (Err fault)
        → through_tried s s held held (Err fault)
    unkept_goes X s tool.WriteFailed held may =
        unwritten_goes (SettlesLevel keeping limit span id) (leave_of_level keeping limit span id) (IsTried span id page) s held held (Keeps-refl held)
        (λ book tried. (page, tried, may))
    unkept_goes X s tool.Memory held may = memory_refused s held held (Keeps-refl held)
    unkept_goes X s fault held never = absurd never

    -- it is kept, and then the level is settled by its claim
    pub kept_goes : (old new : State) (held later : Option (List ℕ)) (result : Result Bool ToolFault) → keeping.keeps limit id page.level shown
        → GoesBy span id page shown old new held later result → through_tried old new held later result
    kept_goes old new held later result kept goes =
        step_other (SettlesBy id page.level shown) (SettlesLevel keeping limit span id) (leave_of_kept span id) (leave_of_level keeping limit span id)
        (IsTried span id page) (λ book after line settled tried by. is_settled page shown tried kept by) (λ book after tried left. left)
        (λ book tried never. absurd never) old new held later result goes

-- ---- it is settled by a claim

module _ (span : Span) (id : ℤ) (page : Page) (rows : Rows) (same : page.level ≡ rows) where
  abbrev May : Claim → Book → Book → Type 0
  May shown book after = IsTried span id page book → MayStep (SettlesBy id page.level shown) (leave_of_kept span id) book after

  not_set : (book : Book) (shown : Claim) (fault : BookFault) → IsNotSet book (id_number id) rows shown fault
      → IsNotSet book (id_number id) page.level shown fault
  not_set book shown fault refused = subst (λ (r : Rows). IsNotSet book (id_number id) r shown fault) (sym same) refused

  -- ---- an offer, and a verdict

  module _ (old mid : State) (letters : List Dir) (pushes : ℕ) (few : length letters ≤ letter_limit) (fewest : AreFewest rows letters pushes)
      (one : Stops old mid (λ book after. (told : Standing) × OffersTelling book (id_number id) letters told after)) where
    abbrev IsOffered : Book → Book → Type 0
    IsOffered book after = (told : Standing) × OffersTelling book (id_number id) letters told after

    least : AreFewest page.level letters pushes
    least = subst (λ (r : Rows). AreFewest r letters pushes) (sym same) fewest

    left : (book after : Book) → IsTried span id page book → IsOffered book after → EndsLevel span id book after
    left book after tried (told, tells) = inr (page, tried, letters, told.offer, tells.offered)

    offer_stops : Stops old mid (May (claim.Pushes pushes))
    offer_stops = stops_less old mid _ _ (λ book after made tried. inl (left book after tried made)) one

    -- the letters are not kept, for a cause outside
    pub unoffered_goes : (held : Option (List ℕ)) (fault : BookFault)
        → calls.KeepsBook old mid (λ book. IsOutside fault ⊎ IsNotOffered book (id_number id) letters fault) → IsCaused old mid IsOffered fault
        → GoesBy span id page (claim.Pushes pushes) old mid held held (Err (of_book fault))
    unoffered_goes held fault keeps caused = record {
      turns = λ clean book held_now.
          let (why, holds) = keeps clean book held_now in (
            book,
            λ tried. elim why [
              | inl outside ↦ left_steps (SettlesBy id page.level (claim.Pushes pushes)) (leave_of_kept span id) book book held held fault outside (inl refl) (Keeps-refl held)
              | inr refused ↦ absurd (never_refused span id page book letters fault tried least.solves few refused)
            ],
            holds,
          );
      done = tt;
      stop = offer_stops;
      cause = caused_more old mid _ IsOffered (λ book after made tried. inl (left book after tried made)) fault caused;
    }

    module _ (told : Standing) (offered : StoresChange old mid (λ book after. OffersTelling book (id_number id) letters told after)) (new : State)
        (two : Stops mid new (λ book after. SetsVerdict book (id_number id) (claim.Pushes pushes) after)) where
      early : HasCleanDisk new → HasCleanDisk mid
      early clean = omega (arith, clean, two.clean)

      least_after : (book middle : Book) → IsKeptBook book → IsTried span id page book → OffersTelling book (id_number id) letters told middle
          → HasLeast middle (id_number id) page.level pushes
      least_after book middle kept tried tells = offered_best span id page book middle letters pushes told.offer kept tried least tells.offered

      optimal : (book middle after : Book) → IsKeptBook book → IsTried span id page book → OffersTelling book (id_number id) letters told middle
          → SetsVerdict middle (id_number id) (claim.Pushes pushes) after
          → SettlesBy id page.level (claim.Pushes pushes) book (optimal_line id told.pushes told.moves) true after
      optimal book middle after kept tried tells sets =
          let count = best_told middle (id_number id) page.level pushes tells.best (least_after book middle kept tried tells) tells.has in (
            tells.best,
            count,
            record {
              letters = letters;
              offer = told.offer;
              middle = middle;
              offered = tells.offered;
              set = subst (λ n. SetsVerdict middle (id_number id) (claim.Pushes n) after) (sym count) sets;
              has = best_stays middle after (id_number id) (claim.Pushes pushes) tells.best sets tells.has;
              fewest = subst (IsFewest page.level) (sym count) least.fewest;
            },
            λ i. optimal_line id (tells.pushes i) (tells.moves i),
            refl,
          )

      set_stops : Stops old new (May (claim.Pushes pushes))
      set_stops = survives_then old mid new _ _ _ (λ _ db made. made) (λ clean db made book shows.
          let (middle, tells, stores) = offered (early clean) book (held_shown old book shows) in
          let (after, sets, has) = made middle (shown mid middle stores) in
          (after, λ tried. inr (optimal_line id told.pushes told.moves, true, optimal book middle after shows.0 tried tells sets), has))
          offer_stops two

      -- the verdict is not set, for a cause outside
      pub unset_goes : (held : Option (List ℕ)) (fault : BookFault)
          → calls.KeepsBook mid new (λ book. IsOutside fault ⊎ IsNotSet book (id_number id) rows (claim.Pushes pushes) fault)
          → IsCaused mid new (λ book after. SetsVerdict book (id_number id) (claim.Pushes pushes) after) fault
          → GoesBy span id page (claim.Pushes pushes) old new held held (Err (of_book fault))
      unset_goes held_out fault keeps caused = record {
        turns = λ clean book held_now.
            let (middle, tells, stores) = offered (early clean) book held_now in
            let (why, holds) = keeps clean middle (held mid middle stores) in (
              middle,
              λ tried. elim why [
                | inl outside ↦ left_steps (SettlesBy id page.level (claim.Pushes pushes)) (leave_of_kept span id) book middle held_out held_out fault outside (left book middle tried (told, tells)) (Keeps-refl held_out)
                | inr refused ↦ absurd (never_differs middle (id_number id) page.level pushes fault (least_after book middle held_now.0 tried tells) (not_set middle (claim.Pushes pushes) fault refused))
              ],
              holds,
            );
        done = tt;
        stop = set_stops;
        cause = caused_more old new _ (May (claim.Pushes pushes)) (λ book after made. made) fault
            (λ database clean book holds.
            let (middle, tells, stores) = offered (early clean) book holds in
            elim (caused database clean middle (held mid middle stores)) [
              | inl (after, sets, big) ↦
                  inl (after, λ tried. inr (optimal_line id told.pushes told.moves, true, optimal book middle after holds.0 tried tells sets), big)
              | inr why ↦ inr (cause_before old mid new _ _ one two clean why)
            ]);
      }

      -- or it is, and told
      pub set_goes : (held later : Option (List ℕ)) (result : Result Bool ToolFault)
          → StoresChange mid new (λ book after. SetsVerdict book (id_number id) (claim.Pushes pushes) after)
          → TellsLine (optimal_line id told.pushes told.moves) true held later result
          → GoesBy span id page (claim.Pushes pushes) old new held later result
      set_goes held_out later result proved tells_line =
          told_goes (SettlesBy id page.level (claim.Pushes pushes)) (leave_of_kept span id) (IsTried span id page) old new (optimal_line id told.pushes told.moves) true held_out later result
          (changes_leads old new _ (λ clean book holds.
          let (middle, tells, stores) = offered (early clean) book holds in
          let (after, sets, stores_after) = proved clean middle (held mid middle stores) in
          (after, λ tried. optimal book middle after holds.0 tried tells sets, stores_after)))
          set_stops tells_line

  -- ---- a verdict alone

  module _ (old new : State) (unsolvable : IsUnsolvable rows)
      (stop : Stops old new (λ book after. SetsVerdict book (id_number id) claim.Unsolvable after)) where
    never_solves : IsUnsolvable page.level
    never_solves = subst IsUnsolvable (sym same) unsolvable

    none_solves : (book after : Book) → SetsVerdict book (id_number id) claim.Unsolvable after
        → SettlesBy id page.level claim.Unsolvable book (unsolvable_line id) true after
    none_solves book after sets = (never_solves, sets, refl, refl)

    may_none : (book after : Book) → SetsVerdict book (id_number id) claim.Unsolvable after → May claim.Unsolvable book after
    may_none book after sets tried = inr (unsolvable_line id, true, none_solves book after sets)

    none_stops : Stops old new (May claim.Unsolvable)
    none_stops = stops_less old new _ _ may_none stop

    pub none_unset_goes : (held : Option (List ℕ)) (fault : BookFault)
        → calls.KeepsBook old new (λ book. IsOutside fault ⊎ IsNotSet book (id_number id) rows claim.Unsolvable fault)
        → IsCaused old new (λ book after. SetsVerdict book (id_number id) claim.Unsolvable after) fault
        → GoesBy span id page claim.Unsolvable old new held held (Err (of_book fault))
    none_unset_goes held fault keeps caused = record {
      turns = λ clean book held_now.
          let (why, holds) = keeps clean book held_now in (
            book,
            λ tried. elim why [
              | inl outside ↦ left_steps (SettlesBy id page.level claim.Unsolvable) (leave_of_kept span id) book book held held fault outside (inl refl) (Keeps-refl held)
              | inr refused ↦ absurd (never_solved span id page book fault held_now.0 tried never_solves (not_set book claim.Unsolvable fault refused))
            ],
            holds,
          );
      done = tt;
      stop = none_stops;
      cause = caused_more old new _ _ may_none fault caused;
    }

    pub none_set_goes : (held later : Option (List ℕ)) (result : Result Bool ToolFault)
        → StoresChange old new (λ book after. SetsVerdict book (id_number id) claim.Unsolvable after) → TellsLine (unsolvable_line id) true held later result
        → GoesBy span id page claim.Unsolvable old new held later result
    none_set_goes held later result proved tells =
        told_goes (SettlesBy id page.level claim.Unsolvable) (leave_of_kept span id) (IsTried span id page) old new (unsolvable_line id) true held later result
        (changes_leads old new _ (λ clean book holds.
        let (after, sets, stores) = proved clean book holds in (after, λ tried. none_solves book after sets, stores)))
        none_stops tells

-- Levels that are added one after another.
use Rattle.std.proofs.Common.{ℕ, ℤ, ◌≡◌, ◌≢◌, ◌⊎◌, ◌+◌, ◌<◌, ◌≤◌, inl, inr, List, [], ◌++◌, Option, Result, Ok, Err}
use Rattle.std.proofs.Common.{Bool, true, false, IfErr, IfSome, OnErr, OnOk, arith, length, nat_lt, refl, subst, sym}
use Rattle.std.proofs.lemmas.Bool.Decides.{nat_tests}
use Rattle.std.proofs.KnownBytes.{Appends-nil, Keeps-refl}
use Rattle.std.specs.Io.KnownBytes.{Appends}
use Rattle.sqlite.specs.State.{State}
use Rattle.sqlite.specs.View.{doubt}
use Rattle.sok_rules.specs.declared.fault.LevelFault.{LevelFault}
use Rattle.sok_rules.specs.declared.fault.LevelFault.TheVariants as level
use Rattle.sok_rules.specs.Squares.{Rows}
use Rattle.sok_text.specs.Collections.{Block, blocks_of, level_at}
use Rattle.sok_text.specs.Titles.{title_at}
use Rattle.sok_board.specs.declared.fault.BoardFault.{BoardFault}
use Rattle.sok_board.specs.Refusals.{IsAcceptable}
use Rattle.sok_book.specs.declared.fault.BookFault.{BookFault}
use Rattle.sok_book.specs.declared.fault.BookFault.TheVariants as refusal
use Rattle.sok_book.specs.Books.{Book}
use Rattle.sok_book.specs.Commands.{Adds}
use Rattle.sok_book.specs.Refusals.{IsNotAdded}
use Rattle.sok_engine.specs.declared.fault.ToolFault.{ToolFault}
use Rattle.sok_engine.specs.declared.fault.ToolFault.TheVariants as tool
use Rattle.sok_engine.specs.declared.input.InputFault.{InputFault}
use Rattle.sok_engine.specs.declared.input.InputFault.TheVariants as input
use Rattle.sok_engine.specs.Faults.{of_board, of_book, of_input, of_level}
use Rattle.sok_engine.specs.Limits.{input_limit}
use Rattle.sok_engine.specs.Inputs.{UnlessMuch}
use Rattle.sok_engine.specs.Written.{Answer, Answers, AppendsFront}
use Rattle.sok_engine.proofs.Answering.{too_much}
use Rattle.sok_judge.proofs.Checking.{some_text}
use Rattle.sok_store.specs.Faults.{IsOutside}
use Rattle.sok_store.specs.Calls.{ChangesBook, KeepsBook, id_number, kept_if_given}
use Rattle.sok_store.proofs.Calls.{keeps_turns, same_turns, turns_more, turns_then}
use Rattle.sok_keep.specs.Adds.{AddsFirst, AddsLevel, IsEndAt, IsStopAt, WritesAdding, added, fault_line, faulty, id_line, more, none, unaccepted}
use Rattle.sok_keep.specs.Adding.{IsStop, EndsLevel, EndsLevels}

-- ---- one level

pub level_added : (old new : State) (n : ℕ) (rows : Rows) (title : Option (List ℕ)) (id : ℤ) (told whole : List ℕ) (done : Unit {0}) → IsAcceptable rows
    → ChangesBook old new (λ b after. Adds b rows (kept_if_given title) (id_number id) after) → whole ≡ told ++ id_line n id
    → ChangesBook old new (λ b after. EndsLevel n (Ok rows) title b after told whole (Ok done))
level_added old new n rows title id told whole done accepted turns grown =
    turns_more (λ book after adds. (id_line n id, added rows id refl accepted adds refl, grown)) turns

-- no board can be made of it
pub no_board : (book : Book) (rows : Rows) (fault : BookFault) (cause : BoardFault) → IsOutside fault ⊎ IsNotAdded book rows fault
    → fault ≡ refusal.Level cause → IsNotAdded book rows (refusal.Level cause)
no_board book rows fault cause (inl (inl memory)) is = let no : ⊥ = cc in absurd no
no_board book rows fault cause (inl (inr database)) is = let no : ⊥ = cc in absurd no
no_board book rows fault cause (inr cannot) is = subst (IsNotAdded book rows) is cannot

-- why the call ends at a level
stops : (b : Book) (rows : Rows) (fault : BookFault) → ((cause : BoardFault) → fault ≢ refusal.Level cause) → IsNotAdded b rows fault
    → IsStop (Ok rows) b (of_book fault)
stops b rows (refusal.Level cause) other cannot = absurd (other cause refl)
stops b rows refusal.BookFull other cannot = (rows, refl, cannot)
stops b rows fault other cannot = absurd cannot

stop_of : (b : Book) (rows : Rows) (fault : BookFault) → ((cause : BoardFault) → fault ≢ refusal.Level cause) → IsOutside fault ⊎ IsNotAdded b rows fault
    → IsStop (Ok rows) b (of_book fault)
stop_of b rows fault other (inl (inl memory)) = subst (λ f. IsStop (Ok rows) b (of_book f)) (sym memory) tt
stop_of b rows fault other (inl (inr database)) = subst (λ f. IsStop (Ok rows) b (of_book f)) (sym database) tt
stop_of b rows fault other (inr cannot) = stops b rows fault other cannot

-- a level as it is read, and one with a fault
abbrev pub reads : Rows → Result Rows LevelFault
reads rows = Ok rows

abbrev pub fails : LevelFault → Result Rows LevelFault
fails fault = Err fault

-- the level of the collection, with its title
pub level_found : (old new : State) (n : ℕ) (rows : Rows) (found : Result Rows LevelFault) (title known : Option (List ℕ)) (told whole : List ℕ)
    (result : Result (Unit {0}) ToolFault) → (reads rows ≡ fails level.Memory) ⊎ (reads rows ≡ found) → title ≡ known
    → ChangesBook old new (λ b after. EndsLevel n (Ok rows) title b after told whole result)
    → ChangesBook old new (λ b after. EndsLevel n found known b after told whole result)
level_found old new n rows found title known told whole result (inl other) same turns = let no : ⊥ = cc in absurd no
level_found old new n rows found title known told whole result (inr is) same turns =
    subst (λ t. ChangesBook old new (λ b after. EndsLevel n found t b after told whole result)) same
    (subst (λ l. ChangesBook old new (λ b after. EndsLevel n l title b after told whole result)) is turns)

-- it has a fault
pub is_faulty : (fault : LevelFault) (found : Result Rows LevelFault) → (fails fault ≡ fails level.Memory) ⊎ (fails fault ≡ found) → fault ≢ level.Memory
    → found ≡ Err fault
is_faulty fault found (inl memory) other = let is : fault ≡ level.Memory = cc in absurd (other is)
is_faulty fault found (inr is) other = sym is

-- what is left where the book refuses
pub level_ended : (old new : State) (n : ℕ) (rows : Rows) (title : Option (List ℕ)) (fault : BookFault) (told whole : List ℕ)
    (result : Result (Unit {0}) ToolFault)
    → OnOk result ((cause : BoardFault) × (fault ≡ refusal.Level cause) × (whole ≡ told ++ fault_line n (of_board cause)))
    → IfErr result (λ why. (why ≡ tool.Memory) ⊎ (((cause : BoardFault) → fault ≢ refusal.Level cause) × (why ≡ of_book fault)))
    → OnErr result (whole ≡ told) → KeepsBook old new (λ b. IsOutside fault ⊎ IsNotAdded b rows fault)
    → ChangesBook old new (λ b after. EndsLevel n (Ok rows) title b after told whole result)
level_ended old new n rows title fault told whole (Ok done) (cause, is, grown) given same keeps =
    keeps_turns _ (λ book why. (fault_line n (of_board cause), unaccepted rows cause refl (no_board book rows fault cause why is) refl refl, grown)) keeps
level_ended old new n rows title fault told whole (Err why) given (inl memory) same keeps =
    keeps_turns _ (λ book cannot. (refl, same, subst (λ f. IsStop (Ok rows) book f) (sym memory) tt)) keeps
level_ended old new n rows title fault told whole (Err why) given (inr (other, is)) same keeps =
    keeps_turns _ (λ book cannot. (refl, same, subst (λ f. IsStop (Ok rows) book f) (sym is) (stop_of book rows fault other cannot))) keeps

-- what is left of a level with a fault
pub level_told : (s : State) (n : ℕ) (fault : LevelFault) (found : Result Rows LevelFault) (title : Option (List ℕ)) (told whole : List ℕ)
    (result : Result (Unit {0}) ToolFault) → (fails fault ≡ fails level.Memory) ⊎ (fails fault ≡ found) → OnOk result (fault ≢ level.Memory)
    → OnOk result (whole ≡ told ++ fault_line n (of_level fault)) → IfErr result (λ why. why ≡ tool.Memory) → OnErr result (whole ≡ told)
    → ChangesBook s s (λ b after. EndsLevel n found title b after told whole result)
level_told s n fault found title told whole (Ok done) is other grown memory same =
    same_turns _ (λ book. (fault_line n (of_level fault), faulty fault (is_faulty fault found is other) refl refl, grown))
level_told s n fault found title told whole (Err why) is other grown memory same =
    same_turns _ (λ book. (refl, same, subst (λ f. IsStop found book f) (sym memory) tt))

-- ---- all levels

adds_more : (blocks : List Block) (book : Book) (n : ℕ) (text : List ℕ) (before : Book) (line : List ℕ) (after : Book) (whole : List ℕ)
    → AddsFirst blocks book n text before → n < length blocks
    → AddsLevel (n + 1) (level_at blocks (n + 1)) (title_at blocks (n + 1)) before line after → whole ≡ text ++ line
    → AddsFirst blocks book (n + 1) whole after
adds_more blocks book n text before line after whole first within adds grown =
    subst (λ t. AddsFirst blocks book (n + 1) t after) (sym grown) (more n text line before after first within adds)

-- none of them yet
pub first_none : (s : State) (blocks : List Block) (text : List ℕ) → text ≡ [] → ChangesBook s s (λ b after. AddsFirst blocks b 0 text after)
first_none s blocks text empty = same_turns _ (λ book. subst (λ t. AddsFirst blocks book 0 t book) (sym empty) none)

-- a level is not added for what stops there
stop_at : (blocks : List Block) (n : ℕ) (book : Book) (fault : ToolFault) → IsStop (level_at blocks n) book fault → IsStopAt blocks n book fault
stop_at blocks n book tool.Memory why = tt
stop_at blocks n book (tool.Book refusal.Database) why = tt
stop_at blocks n book (tool.Book refusal.BookFull) why = why
stop_at blocks n book fault why = absurd why

-- what is left where the next one stops
stopped_at : (blocks : List Block) (book : Book) (n : ℕ) (text : List ℕ) (middle after : Book) (whole : List ℕ) (fault : ToolFault)
    → AddsFirst blocks book n text middle → (after ≡ middle) × (whole ≡ text) × IsStop (level_at blocks (n + 1)) middle fault
    → (k : ℕ) × AddsFirst blocks book k whole after × IsStopAt blocks (k + 1) after fault
stopped_at blocks book n text middle after whole fault first (same, kept, why) = (
  n,
  subst (λ t. AddsFirst blocks book n t after) (sym kept) (subst (AddsFirst blocks book n text) (sym same) first),
  subst (λ b. IsStopAt blocks (n + 1) b fault) (sym same) (stop_at blocks (n + 1) middle fault why),
)

-- the first levels, and then one more, or a stop
module _ (old mid new : State) (blocks : List Block) (n : ℕ) (text whole : List ℕ) (cleaner : doubt mid.is_clean ≤ doubt new.is_clean)
    (first : ChangesBook old mid (λ b after. AddsFirst blocks b n text after)) where
  pub first_more : (done : Unit {0}) → n < length blocks
      → ChangesBook mid new (λ b after. EndsLevel (n + 1) (level_at blocks (n + 1)) (title_at blocks (n + 1)) b after text whole (Ok done))
      → ChangesBook old new (λ b after. AddsFirst blocks b (n + 1) whole after)
  first_more done within = turns_then (λ clean. omega (arith, clean, cleaner))
      (λ book middle after before left. adds_more blocks book n text middle left.0 after whole before within left.1 left.2) first

  pub first_stopped : (fault : ToolFault)
      → ChangesBook mid new (λ b after. EndsLevel (n + 1) (level_at blocks (n + 1)) (title_at blocks (n + 1)) b after text whole (Err fault))
      → ChangesBook old new (λ b after. EndsLevels blocks b after whole (Err fault))
  first_stopped fault = turns_then (λ clean. omega (arith, clean, cleaner))
      (λ book middle after before left. stopped_at blocks book n text middle after whole fault before left) first

module _ (old new : State) (blocks : List Block) (n : ℕ) (text : List ℕ) (first : ChangesBook old new (λ b after. AddsFirst blocks b n text after)) where
  -- memory was refused before the next one
  pub first_unsaid : (fault : ToolFault) → fault ≡ tool.Memory → ChangesBook old new (λ b after. EndsLevels blocks b after text (Err fault))
  first_unsaid fault memory = turns_more (λ book after before. (n, before, subst (λ f. IsStopAt blocks (n + 1) after f) (sym memory) tt)) first

  pub all_added : (done : Unit {0}) → n ≡ length blocks → ChangesBook old new (λ b after. EndsLevels blocks b after text (Ok done))
  all_added done end = turns_more (λ book after before. subst (λ k. AddsFirst blocks book k text after) end before) first

-- ---- the answer

-- an input that is too long, where the reader's is
too_long : (much : Bool) (n : ℕ) → nat_lt input_limit n ≡ much → UnlessMuch much (λ (_ : Result Answer ToolFault). ⊥) (Err tool.TooMuch) → input_limit < n
too_long true n is told = grind (arith, nat_tests)
too_long false n is told = absurd told

pub some_longer : (known : Option (List ℕ)) → IfSome known (λ all. input_limit < length all)
    → (bytes : List ℕ) × IfSome known (λ all. bytes ≡ all) × (input_limit < length bytes)
some_longer known much =
    let none : List ℕ → Answers = λ _ _. ⊥ in
    let (bytes, told, within) = too_much input_limit none known much in
    (bytes, told, too_long (nat_lt input_limit (length bytes)) (length bytes) refl within)

-- the input was not read
unread : (book : Book) (known held : Option (List ℕ)) (fault : InputFault) → (fault ≡ input.TooMuch → IfSome known (λ all. input_limit < length all))
    → WritesAdding book known book held held (Err (of_input fault))
unread book known held input.Memory much =
    let (bytes, told) = some_text known in
    record { bytes = bytes; told = told; count = 0; text = []; added = none; ended = Appends-nil held }
unread book known held input.ReadFailed much =
    let (bytes, told) = some_text known in
    record { bytes = bytes; told = told; count = 0; text = []; added = none; ended = (refl, Keeps-refl held) }
unread book known held input.TooMuch much =
    let (bytes, told, longer) = some_longer known (much refl) in
    record { bytes = bytes; told = told; count = 0; text = []; added = none; ended = (refl, longer, Keeps-refl held) }

pub adding_unread : (s : State) (known held : Option (List ℕ)) (fault : InputFault)
    → (fault ≡ input.TooMuch → IfSome known (λ all. input_limit < length all))
    → ChangesBook s s (λ b after. WritesAdding b known after held held (Err (of_input fault)))
adding_unread s known held fault much = same_turns _ (λ book. unread book known held fault much)

-- the lines were written, and the call ends as the addition did
ends_at : (bytes : List ℕ) (known : Option (List ℕ)) (book after : Book) (before later : Option (List ℕ)) (text : List ℕ) (fault : ToolFault)
    → IfSome known (λ all. bytes ≡ all) → length bytes ≤ input_limit → Appends before later text
    → (n : ℕ) × AddsFirst (blocks_of bytes) book n text after × IsStopAt (blocks_of bytes) (n + 1) after fault
    → WritesAdding book known after before later (Err fault)
ends_at bytes known book after before later text tool.Memory all few written (n, first, why) =
    record { bytes = bytes; told = all; count = n; text = text; added = first; ended = written }
ends_at bytes known book after before later text (tool.Book refusal.Database) all few written (n, first, why) =
    record { bytes = bytes; told = all; count = n; text = text; added = first; ended = written }
ends_at bytes known book after before later text (tool.Book refusal.BookFull) all few written (n, first, full) =
    record { bytes = bytes; told = all; count = n; text = text; added = first; ended = (few, full, written) }
ends_at bytes known book after before later text fault all few written (n, first, never) = absurd never

-- how far it came
end_of : (blocks : List Block) (book after : Book) (text : List ℕ) (ended : Result (Unit {0}) ToolFault) → EndsLevels blocks book after text ended
    → (n : ℕ) × AddsFirst blocks book n text after × IsEndAt blocks n after
end_of blocks book after text (Ok done) first = (length blocks, first, inl refl)
end_of blocks book after text (Err fault) (n, first, why) = (n, first, inr (fault, why))

module _ (old new : State) (read : List ℕ) (known before later : Option (List ℕ)) (text : List ℕ) (all : IfSome known (λ all. read ≡ all))
    (few : length read ≤ input_limit) where
  pub adding_stopped : (fault : ToolFault) → ChangesBook old new (λ b after. EndsLevels (blocks_of read) b after text (Err fault)) → Appends before later text
      → ChangesBook old new (λ b after. WritesAdding b known after before later (Err fault))
  adding_stopped fault turns written = turns_more (λ book after left. ends_at read known book after before later text fault all few written left) turns

  pub adding_done : (done : Unit {0}) → ChangesBook old new (λ b after. EndsLevels (blocks_of read) b after text (Ok done)) → Appends before later text
      → ChangesBook old new (λ b after. WritesAdding b known after before later (Ok 0))
  adding_done done turns written = turns_more (λ book after first.
      record { bytes = read; told = all; count = length (blocks_of read); text = text; added = first; ended = (few, refl, refl, written) }) turns

  -- a write of the lines failed
  pub adding_unwritten : (ended : Result (Unit {0}) ToolFault) (fault : ToolFault) → fault ≡ tool.WriteFailed
      → ChangesBook old new (λ b after. EndsLevels (blocks_of read) b after text ended) → AppendsFront before later text
      → ChangesBook old new (λ b after. WritesAdding b known after before later (Err fault))
  adding_unwritten ended fault unwritten turns written = turns_more (λ book after left.
      let (n, first, end) = end_of (blocks_of read) book after text ended left in
      subst (λ f. WritesAdding book known after before later (Err f)) (sym unwritten)
      (record { bytes = read; told = all; count = n; text = text; added = first; ended = (few, end, written) })) turns

-- A page more at the end of a book.
use Rattle.std.proofs.Common.{◌≡◌, ◌⊎◌, inl, inr, refl, sym, ap, subst, ◌∙◌, ℕ, ℤ, pos, ◌+◌, ◌<◌, ◌≤◌, ◌^◌, List, [], ◌∷◌, ◌++◌, Option, Some, None, arith}
use Rattle.std.proofs.Common.{Result, Ok, Err, IfErr, IfOk, IfSome, length, slice_get}
use Rattle.sqlite.specs.declared.error.Error.{Error}
use Rattle.sqlite.specs.Tree.{Trees}
use Rattle.sqlite.specs.State.{State, HasCleanDisk, Survives}
use Rattle.sqlite.proofs.StateLemmas.{survives_then, survives_weaker}
use Rattle.sok_rules.specs.Squares.{Rows}
use Rattle.sok_rules.specs.Levels.{IsLevel}
use Rattle.sok_board.specs.declared.fault.BoardFault.{BoardFault}
use Rattle.sok_board.specs.declared.fault.BoardFault.TheVariants as board
use Rattle.sok_board.specs.Refusals.{IsAcceptable, IsRefused}
use Rattle.sok_board.proofs.Lists.{slice_get-push}
use Rattle.sok_text.specs.Canonical.{level_text}
use Rattle.sok_book.specs.declared.fault.BookFault.{BookFault}
use Rattle.sok_book.specs.declared.fault.BookFault.TheVariants.{BookFull, Memory}
use Rattle.sok_book.specs.Books.{Book, Page}
use Rattle.sok_book.specs.Commands.{Adds, IsUnknown, is_known, is_new, level_limit, new_page}
use Rattle.sok_book.specs.Faults.{of_board}
use Rattle.sok_book.specs.Refusals.{IsNotAdded}
use Rattle.sok_book.specs.Titles.{IsTitle}
use Rattle.sok_book.proofs.Titles.{kept-are-titles}
use Rattle.sok_sql.specs.Causes.{AreApart, IsExcused, IsMemory, IsTooBig}
use Rattle.sok_sql.specs.Connections.{Holds, Rests, Shows, Stores}
use Rattle.sok_sql.specs.Leaves.{Leaf, HasLeaves, ids_with, new_leaf}
use Rattle.sok_sql.specs.Statements.{Inserts}
use Rattle.sok_store.specs.Faults.{IsOutside}
use Rattle.sok_store.specs.Rows.{HoldsBook, IsKeptBook, StoresBook, leaves_of}
use Rattle.sok_store.proofs.Finding.{stands_found, unknown_unfound}
use Rattle.sok_store.proofs.KeptPages.{IsKeptPage-new}
use Rattle.sok_store.proofs.KeptBooks.{IsKeptBook-push, leaves_of-push, length-leaves_of}
use Rattle.sok_store.specs.Calls.{IsCaused, KeepsBook, MakesNone, Stops, StoresChange, id_number, kept_if_given}
use Rattle.sok_store.specs.Changing.{AddsPage, IsCausedAdding, IsFull, IsNewPage, StopsAdding}
use Rattle.sok_store.specs.Running.{Admits, RunsAdding, RunsAddingPage}
use Rattle.sok_store.proofs.Calls.{held, held_shown, rests_holds, rests_stops, shown, stops_later}
use Rattle.sok_store.proofs.Caused.{cause_before, few_leaves, kept_apart}

title_is : (title : Option (List ℕ)) → IfSome (kept_if_given title) IsTitle
title_is None = tt
title_is (Some title) = kept-are-titles title

pub new_page_is : (book : Book) (rows : Rows) (text : List ℕ) (title : Option (List ℕ)) → text ≡ level_text rows → IsLevel rows → IsAcceptable rows
    → IsUnknown book rows → IsNewPage book text (kept_if_given title) (new_page rows (kept_if_given title))
new_page_is book rows text title is level accepted unknown = record {
  leaf = ap (λ t. new_leaf t (kept_if_given title)) (sym is);
  kept = IsKeptPage-new rows (kept_if_given title) level accepted (title_is title);
  unknown = unknown;
}

-- the book with the page, and its leaves
module _ (book : Book) (text : List ℕ) (title : Option (List ℕ)) (page : Page) (new : IsNewPage book text title page) (kept : IsKeptBook book)
    (room : length book < level_limit) where
  pub pushed_kept : IsKeptBook (book ++ page ∷ [])
  pushed_kept = IsKeptBook-push book page kept new.kept new.unknown room

  pub pushed_leaves : leaves_of book ++ new_leaf text title ∷ [] ≡ leaves_of (book ++ page ∷ [])
  pushed_leaves = ap (λ leaf. leaves_of book ++ leaf ∷ []) (sym new.leaf) ∙ sym (leaves_of-push book page)

-- a level of which no board can be made
pub board_refused : (book : Book) (rows : Rows) (fault : BoardFault) → IsRefused rows fault → IsOutside (of_board fault) ⊎ IsNotAdded book rows (of_board fault)
board_refused book rows board.Memory is = inl (inl refl)
board_refused book rows fault is = inr ((λ e. cc), is)

-- ---- of the connection

-- no page is added
page_rests : (old new : State) (text : List ℕ) (title : Option (List ℕ)) → Rests old new → StopsAdding old new text title
page_rests old new text title rests =
    survives_weaker old new _ _ (λ _ db none book page shows new_is. absurd (none (inr shows.1.schema))) rests.stop

module _ (old mid : State) (text : List ℕ) (title : Option (List ℕ)) (rests : Rests old mid) where
  pub page_uncounted : (error : Error) (fault : BookFault) → IsOutside fault → (IsMemory error → fault ≡ Memory)
      → (HasCleanDisk mid → (leaves : List Leaf) → Holds old leaves → length leaves < 2 ^ 32 → IsExcused old mid error)
      → RunsAddingPage old mid text title (Err fault)
  page_uncounted error fault outside memory why = record {
    added = tt;
    refused = λ clean book holds. (inl outside, rests_holds old mid rests clean book holds);
    stop = page_rests old mid text title rests;
    cause = λ database clean book page holds new_is. elim (why clean (leaves_of book) holds.1 (few_leaves book holds.0)) [
      | inl none ↦ absurd (let e = memory none in cc)
      | inr cause ↦ inr cause
    ];
  }

  module _ (count : ℕ) (counted : HasCleanDisk mid → (leaves : List Leaf) → Holds old leaves → Stores mid leaves × (count ≡ length leaves)) where
    counted_pages : HasCleanDisk mid → (book : Book) → HoldsBook old book → StoresBook mid book × (count ≡ length book)
    counted_pages clean book holds =
        let (shows, is) = counted clean (leaves_of book) holds.1 in ((holds.0, shows), is ∙ length-leaves_of book)

    pub book_full : level_limit ≤ count → RunsAddingPage old mid text title (Err BookFull)
    book_full full = record {
      added = tt;
      refused = λ clean book holds.
          let (shows, is) = counted_pages clean book holds in (inr (refl, omega (arith, full, is)), held mid book shows);
      stop = page_rests old mid text title rests;
      cause = λ database. absurd cc;
    }

    module _ (new : State) (room : count < level_limit) where
      -- the leaves with that of a new page
      abbrev with_leaf : List Leaf → List Leaf
      with_leaf leaves = leaves ++ new_leaf text title ∷ []

      page_stops : Survives mid new (λ db. (leaves : List Leaf) → Shows mid leaves → count + 1 ≡ 1 + length leaves → HasLeaves db (with_leaf leaves))
          → StopsAdding old new text title
      page_stops two = survives_then old mid new _ _ _
          (λ _ db none book page shows new_is. absurd (none (inr shows.1.schema)))
          (λ clean db has book page shows_old new_is.
          let early : HasCleanDisk mid = omega (arith, clean, two.clean) in
          let (shows, is) = counted_pages early book (held_shown old book shows_old) in
          let space : length book < level_limit = omega (arith, room, is) in
          let place = length-leaves_of book in
          let after = has (leaves_of book) shows.1.1 (omega (arith, is, place)) in (
            space,
            (
              pushed_kept book text title page new_is shows_old.0 space,
              subst (HasLeaves db) (pushed_leaves book text title page new_is shows_old.0 space) after,
            ),
          ))
          rests.stop two

      pub page_added : {X : Type 0} (x : X) (id : ℤ) → id ≡ pos (count + 1) → Inserts mid new (count + 1) (new_leaf text title) (Ok x)
          → RunsAddingPage old new text title (Ok id)
      page_added x id named insert = record {
        added = λ clean book page holds new_is.
            let early : HasCleanDisk mid = omega (arith, clean, insert.stop.clean) in
            let (shows, is) = counted_pages early book holds in
            let space : length book < level_limit = omega (arith, room, is) in
            let place = length-leaves_of book in
            let (after, stays) = insert.done clean (leaves_of book) (λ _. shows.1.1) (omega (arith, is, place)) in
            let up = stays shows.1.0 in (
              named ∙ ap (λ n. pos (n + 1)) is,
              space,
              (
                pushed_kept book text title page new_is holds.0 space,
                (up, subst (Shows new) (pushed_leaves book text title page new_is holds.0 space) (after up)),
              ),
            );
        refused = tt;
        stop = page_stops insert.stop;
        cause = tt;
      }

      pub page_not_added : {X : Type 0} (error : Error) (fault : BookFault) → IsOutside fault → (IsMemory error → fault ≡ Memory)
          → Inserts {X = X} mid new (count + 1) (new_leaf text title) (Err error) → RunsAddingPage old new text title (Err fault)
      page_not_added error fault outside memory insert = record {
        added = tt;
        refused = λ clean book holds.
            let early : HasCleanDisk mid = omega (arith, clean, insert.stop.clean) in
            let (shows, is) = counted_pages early book holds in (inl outside, (holds.0, insert.kept clean (leaves_of book) (λ _. shows.1.1)));
        stop = page_stops insert.stop;
        cause = λ database clean book page holds new_is.
            let early : HasCleanDisk mid = omega (arith, clean, insert.stop.clean) in
            let (shows, is) = counted_pages early book holds in
            let space : length book < level_limit = omega (arith, room, is) in
            let place = length-leaves_of book in
            let leaf = new_leaf text title in
            let leaves = pushed_leaves book text title page new_is holds.0 space in
            let apart = subst AreApart (sym leaves) (kept_apart (book ++ page ∷ []) (pushed_kept book text title page new_is holds.0 space)) in
            elim (insert.cause clean (leaves_of book) (λ _. shows.1.1) (omega (arith, is, place)) apart) [
              | inl big ↦
                  let there = subst (λ l. slice_get l (length (leaves_of book)) ≡ Some leaf) leaves (slice_get-push (leaves_of book) leaf) in
                  let same : count + 1 ≡ 1 + length (leaves_of book) = omega (arith, is, place) in
                  inl (space, (length (leaves_of book), leaf, there, subst (λ i. IsTooBig i leaf) same big))
              | inr excused ↦ elim excused [
                | inl none ↦ absurd (let e = memory none in cc)
                | inr cause ↦ inr (cause_before old mid new _ _ rests.stop insert.stop clean cause)
              ]
            ];
      }

-- ---- a level that may be there

module _ (old mid : State) (rows : Rows) (text : List ℕ) (text_is : text ≡ level_text rows) (level : IsLevel rows) where
  pub is_there : (id : ℕ) (title : Option (List ℕ))
      → (HasCleanDisk mid → (leaves : List Leaf) → Holds old leaves → Stores mid leaves × (Some id ≡ slice_get (ids_with text 1 leaves) 0))
      → StoresChange old mid (λ book after. Adds book rows title id after)
  is_there id title found clean book holds =
      let (shows, is) = found clean (leaves_of book) holds.1 in
      let at = subst (λ t. slice_get (ids_with t 1 (leaves_of book)) 0 ≡ Some id) text_is (sym is) in
      (book, is_known (stands_found book rows id holds.0 level at) refl, (holds.0, shows))

  module _ (title : Option (List ℕ)) (accepted : IsAcceptable rows)
      (found : HasCleanDisk mid → (leaves : List Leaf) → Holds old leaves → Stores mid leaves × (None ≡ slice_get (ids_with text 1 leaves) 0)) where
    not_there : HasCleanDisk mid → (book : Book) → HoldsBook old book → StoresBook mid book × IsUnknown book rows
    not_there clean book holds =
        let (shows, is) = found clean (leaves_of book) holds.1 in
        let none = subst (λ t. slice_get (ids_with t 1 (leaves_of book)) 0 ≡ None) text_is (sym is) in
        ((holds.0, shows), unknown_unfound book rows none)

    abbrev pub added_page : Page
    added_page = new_page rows (kept_if_given title)

    page_is : (book : Book) → IsUnknown book rows → IsNewPage book text (kept_if_given title) added_page
    page_is book unknown = new_page_is book rows text title text_is level accepted unknown

    module _ (new : State) (early : HasCleanDisk new → HasCleanDisk mid) where
      level_added : (result : Result ℤ BookFault) → IfOk result (AddsPage mid new text (kept_if_given title))
          → IfOk result (λ id. StoresChange old new (λ book after. Adds book rows (kept_if_given title) (id_number id) after))
      level_added (Ok id) added = λ clean book holds.
          let (shows, unknown) = not_there (early clean) book holds in
          let (id_is, room, after) = added clean book added_page (held mid book shows) (page_is book unknown) in
          (book ++ added_page ∷ [], is_new unknown room (ap id_number id_is) refl, after)
      level_added (Err fault) added = tt

      level_refused : (result : Result ℤ BookFault) → IfErr result (λ fault. KeepsBook mid new (λ book. IsOutside fault ⊎ IsFull book fault))
          → IfErr result (λ fault. KeepsBook old new (λ book. IsOutside fault ⊎ IsNotAdded book rows fault))
      level_refused (Ok id) refused = tt
      level_refused (Err fault) refused = λ clean book holds.
          let (shows, unknown) = not_there (early clean) book holds in
          let (why, after) = refused clean book (held mid book shows) in
          let cause : IsOutside fault ⊎ IsNotAdded book rows fault = elim why [
            | inl outside ↦ inl outside
            | inr full ↦ inr (subst (IsNotAdded book rows) (sym full.0) (accepted, unknown, full.1))
          ] in
          (cause, after)

      level_caused : (result : Result ℤ BookFault) → IfErr result (IsCausedAdding mid new text (kept_if_given title))
          → (P Q : Trees → Type 0) → Survives old mid P → Survives mid new Q
          → IfErr result (IsCaused old new (Admits rows (kept_if_given title)))
      level_caused (Ok id) caused P Q one two = tt
      level_caused (Err fault) caused P Q one two = λ database clean book holds.
          let (shows, unknown) = not_there (early clean) book holds in
          elim (caused database clean book added_page (held mid book shows) (page_is book unknown)) [
            | inl (room, big) ↦ inl (book ++ added_page ∷ [], (accepted, (length book + 1, is_new unknown room refl refl)), big)
            | inr cause ↦ inr (cause_before old mid new P Q one two clean cause)
          ]

      level_stops : Rests old mid → StopsAdding mid new text (kept_if_given title)
          → Stops old new (Admits rows (kept_if_given title))
      level_stops rests two =
          stops_later old mid new (Admits rows (kept_if_given title)) (rests_stops old mid rests MakesNone) _
          (λ clean db has book shows_old.
          let (shows, unknown) = not_there (early clean) book (held_shown old book shows_old) in
          let (room, after) = has book added_page (shown mid book shows) (page_is book unknown) in
          (book ++ added_page ∷ [], (accepted, (length book + 1, is_new unknown room refl refl)), after))
          two

      -- all of it
      pub level_runs : Rests old mid → (result : Result ℤ BookFault) → RunsAddingPage mid new text (kept_if_given title) result
          → RunsAdding old new rows (kept_if_given title) result
      level_runs rests result runs = record {
        done = level_added result runs.added;
        refused = level_refused result runs.refused;
        stop = level_stops rests runs.stop;
        cause = level_caused result runs.cause _ _ rests.stop runs.stop;
      }

-- To which of its ends a command comes, by what its calls did.
use Rattle.std.proofs.Common.{◌≡◌, ◌≢◌, ◌⊎◌, inl, inr, sym, subst, ℕ, Some, arith, Ok, Err, IsNone, length, ◌≤◌}
use Rattle.sqlite.specs.State.{State, HasCleanDisk}
use Rattle.sok_book.specs.declared.fault.BookFault.{BookFault}
use Rattle.sok_book.specs.declared.fault.BookFault.TheVariants.{Database, Memory, NoLevel}
use Rattle.sok_book.specs.Books.{Book, Page, PageWithId, page_at}
use Rattle.sok_book.specs.Commands.{level_limit, with_page}
use Rattle.sok_book.specs.Kept.{IsKeptPage}
use Rattle.sok_store.specs.Faults.{IsOutside}
use Rattle.sok_store.specs.Calls.{Stops}
use Rattle.sok_store.specs.Changing.{StopsSetting}
use Rattle.sok_store.specs.Running.{Runs, RunsReading, RunsSetting}
use Rattle.sok_store.proofs.Calls.{held, held_shown, shown, stops_later, stops_none, stored}
use Rattle.sok_store.proofs.Caused.{caused_none, cause_before}
use Rattle.sok_store.proofs.Found.{page_read, reads_nowhere}

module _ {X : Type 0} (old new : State) (Makes : X → Book → Book → Type 0) (MayMake : Book → Book → Type 0) (Refuses : Book → BookFault → Type 0)
    (id : ℕ) (fault : BookFault) where
  -- the page was not read
  pub unread_runs : RunsReading old new id (Err fault) → ((book : Book) → IsNone (page_at book id) → Refuses book NoLevel)
      → Runs old new Makes MayMake Refuses (Err fault)
  unread_runs read missing = record {
    done = tt;
    refused = λ clean book holds.
        let (why, after) = read.refused clean book holds in
        let cause : IsOutside fault ⊎ Refuses book fault = elim why [
          | inl outside ↦ inl outside
          | inr none ↦ inr (subst (Refuses book) (sym none.0) (missing book none.1))
        ] in
        (cause, after);
    stop = stops_none old new MayMake read.stop;
    cause = caused_none old new MayMake fault read.cause;
  }

  -- it was read, and by what was read the command is refused
  pub refused_runs : (kept : PageWithId) → RunsReading old new id (Ok kept)
      → ((book : Book) → IsKeptPage kept.page → page_at book id ≡ Some kept.page → (fault ≡ Memory) ⊎ ((fault ≢ Database) × Refuses book fault))
      → Runs old new Makes MayMake Refuses (Err fault)
  refused_runs kept read refuses = record {
    done = tt;
    refused = λ clean book holds.
        let (at, may, shows) = page_read old new id kept read clean book holds in
        let cause : IsOutside fault ⊎ Refuses book fault = elim (refuses book may at) [
          | inl memory ↦ inl (inl memory)
          | inr (inside, refused) ↦ inr refused
        ] in
        (cause, held new book shows);
    stop = stops_none old new MayMake read.stop;
    cause = λ database clean book holds.
        let (at, may, shows) = page_read old new id kept read clean book holds in
        absurd (elim (refuses book may at) [ inl memory ↦ absurd (let e = memory in cc) | inr (inside, refused) ↦ inside database ]);
  }

-- an id that is that of no page
pub nowhere_runs : {X : Type 0} (s : State) (Makes : X → Book → Book → Type 0) (MayMake : Book → Book → Type 0) (Refuses : Book → BookFault → Type 0) (id : ℕ)
    → ((book : Book) → length book ≤ level_limit → IsNone (page_at book id)) → ((book : Book) → IsNone (page_at book id) → Refuses book NoLevel)
    → Runs s s Makes MayMake Refuses (Err NoLevel)
nowhere_runs s Makes MayMake Refuses id none missing =
    unread_runs s s Makes MayMake Refuses id NoLevel (reads_nowhere s id none) missing

-- a page that may be kept is replaced, and this is answered
pub record Replaces {X : Type 0} (id : ℕ) (page : Page) (Makes : X → Book → Book → Type 0) (x : X) (Writes : Page → Page → Type 0) : Type 0 where
  pub after : Page
  pub makes : (book : Book) → page_at book id ≡ Some page → Makes x book (with_page book id after)
  pub writes : IsKeptPage page → Writes page after

module _ {X : Type 0} {id : ℕ} {kept : PageWithId} {Makes : X → Book → Book → Type 0} {x : X} {Writes : Page → Page → Type 0}
    (it : Replaces id kept.page Makes x Writes) (old mid new : State) (read : RunsReading old mid id (Ok kept)) where
  replaces_stop : StopsSetting mid new id Writes → Stops old new (λ book after. (y : X) × Makes y book after)
  replaces_stop second =
      stops_later old mid new (λ book after. (y : X) × Makes y book after) read.stop _ (λ clean db set book shows_old.
      let early : HasCleanDisk mid = omega (arith, clean, second.clean) in
      let (at, may, shows) = page_read old mid id kept read early book (held_shown old book shows_old) in (
        with_page book id it.after,
        (x, it.makes book at),
        set book kept.page it.after (shown mid book shows) at (it.writes may),
      )) second

  pub replaced_runs : {Y : Type 0} (Refuses : Book → BookFault → Type 0) (y : Y) → RunsSetting mid new id Writes (Ok y)
      → Runs old new Makes (λ book after. (y : X) × Makes y book after) Refuses (Ok x)
  replaced_runs Refuses y set = record {
    done = λ clean book holds.
        let early : HasCleanDisk mid = omega (arith, clean, set.stop.clean) in
        let (at, may, shows) = page_read old mid id kept read early book holds in
        let after = with_page book id it.after in
        let (holds_new, stays) = set.stored clean book kept.page it.after (held mid book shows) at (it.writes may) in
        (after, it.makes book at, stored new after holds_new (stays shows.1.0));
    refused = tt;
    stop = replaces_stop set.stop;
    cause = tt;
  }

  pub unreplaced_runs : {Y : Type 0} (Refuses : Book → BookFault → Type 0) (fault : BookFault) → RunsSetting {X = Y} mid new id Writes (Err fault)
      → Runs old new Makes (λ book after. (y : X) × Makes y book after) Refuses (Err fault)
  unreplaced_runs Refuses fault set = record {
    done = tt;
    refused = λ clean book holds.
        let early : HasCleanDisk mid = omega (arith, clean, set.stop.clean) in
        let (at, may, shows) = page_read old mid id kept read early book holds in
        (inl set.outside, (set.kept clean book (held mid book shows)).1);
    stop = replaces_stop set.stop;
    cause = λ database clean book holds.
        let early : HasCleanDisk mid = omega (arith, clean, set.stop.clean) in
        let (at, may, shows) = page_read old mid id kept read early book holds in
        elim (set.cause database clean book kept.page it.after (held mid book shows) at (it.writes may)) [
          | inl big ↦ inl (with_page book id it.after, (x, it.makes book at), big)
          | inr cause ↦ inr (cause_before old mid new _ _ read.stop set.stop clean cause)
        ];
  }

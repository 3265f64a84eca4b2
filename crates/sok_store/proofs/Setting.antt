-- Another page of the same level in the place of one.
use Rattle.std.proofs.Common.{◌≡◌, inl, inr, refl, sym, ap, subst, ◌∙◌, ℕ, zero, suc, ◌+◌, ◌-◌, List, [], ◌∷◌, Some, arith}
use Rattle.std.proofs.Common.{Ok, Err, option_map, slice_get, string_bytes}
use Rattle.std.specs.List.{slice_set}
use Rattle.std.proofs.lemmas.Option.{none-some, same_Some}
use Rattle.sqlite.specs.declared.error.Error.{Error}
use Rattle.sqlite.specs.State.{State, Survives}
use Rattle.sqlite.proofs.StateLemmas.{survives_weaker}
use Rattle.sok_book.specs.declared.record.Verdict.{Verdict}
use Rattle.sok_book.specs.declared.fault.BookFault.{BookFault}
use Rattle.sok_book.specs.declared.fault.BookFault.TheVariants.{Memory}
use Rattle.sok_book.specs.Books.{Book, Page, page_at}
use Rattle.sok_book.specs.Commands.{with_page}
use Rattle.sok_book.specs.Kept.{IsKeptPage}
use Rattle.sok_sql.specs.Causes.{AreApart, IsMemory, IsTooBig}
use Rattle.sok_sql.specs.Connections.{Holds, Shows}
use Rattle.sok_sql.specs.Leaves.{HasLeaves, Leaf, leaf_with_best, leaf_with_verdict}
use Rattle.sok_sql.specs.Statements.{Updates, UpdatesLeaf}
use Rattle.sok_store.specs.Faults.{IsOutside}
use Rattle.sok_store.specs.Rows.{IsKeptBook, leaf_of, leaves_of, verdict_number}
use Rattle.sok_store.specs.declared.columns.BestColumns.{BestColumns}
use Rattle.sok_store.proofs.KeptPages.{IsKeptPage-solved, solved}
use Rattle.sok_store.proofs.KeptBooks.{IsKeptBook-set, leaves_of-set, slice_get-leaves_of}
use Rattle.sok_store.specs.Changing.{HasBest, HasVerdict, StopsSetting}
use Rattle.sok_store.specs.Running.{RunsSetting}
use Rattle.sok_store.proofs.Caused.{kept_apart, set_get}
use Rattle.sok_store.proofs.Found.{kept_at, one_less}

-- a page of the same level that may be kept, whose leaf is made of the leaf of the one before
pub record IsChanged (change : Leaf → Leaf) (page after : Page) : Type 0 where
  pub level : after.level ≡ page.level
  pub kept : IsKeptPage after
  pub leaf : leaf_of after ≡ change (leaf_of page)

-- ---- a solution, or a verdict

pub best_changed : (best : BestColumns) (page after : Page) → IsKeptPage page → HasBest best page after
    → IsChanged (leaf_with_best (string_bytes best.lurd) best.pushes best.moves) page after
best_changed best page after kept has =
    let change = leaf_with_best (string_bytes best.lurd) best.pushes best.moves in
    let are = has.columns_are in
    let changed : IsChanged change page (solved page has.solution) = record {
      level = refl;
      kept = IsKeptPage-solved page has.solution kept has.kept;
      leaf = λ i. leaf_with_best (sym are.lurd i) (sym are.pushes i) (sym are.moves i) (leaf_of page);
    } in
    subst (IsChanged change page) (sym has.after_is) changed

pub verdict_changed : (verdict : Verdict) (page after : Page) → IsKeptPage page → HasVerdict verdict page after
    → IsChanged (leaf_with_verdict (verdict_number verdict)) page after
verdict_changed verdict page after kept has = record {
  level = ap (λ (p : Page). p.level) has.after_is;
  kept = has.kept;
  leaf = ap leaf_of has.after_is;
}

-- ---- in the table

-- the place of a page among the leaves, and what the change makes of them
pub record IsAt (id : ℕ) (change : Leaf → Leaf) (book : Book) (page after : Page) (n : ℕ) : Type 0 where
  pub id_is : id ≡ 1 + n
  pub leaf_at : slice_get (leaves_of book) n ≡ Some (leaf_of page)
  pub leaves : slice_set (leaves_of book) n (change (leaf_of page)) ≡ leaves_of (with_page book id after)
  pub keeps : IsKeptBook (with_page book id after)

is_at : (id : ℕ) (change : Leaf → Leaf) (book : Book) (page after : Page) → IsKeptBook book → page_at book id ≡ Some page → IsChanged change page after
    → (n : ℕ) × IsAt id change book page after n
is_at zero change book page after kept at changed = absurd (none-some page at)
is_at (suc n) change book page after kept at changed =
    let place : n ≡ suc n - 1 = sym (one_less n) in
    let leaves = ap (slice_set (leaves_of book) n) (sym changed.leaf) ∙ sym (leaves_of-set book n after) in (
      n,
      record {
        id_is = omega arith;
        leaf_at = slice_get-leaves_of book n ∙ ap (option_map leaf_of) at;
        leaves = leaves ∙ ap (λ m. leaves_of (slice_set book m after)) place;
        keeps = subst (λ m. IsKeptBook (slice_set book m after)) place (IsKeptBook-set book n page after kept at changed.level changed.kept);
      },
    )

module _ (old new : State) (id : ℕ) (change : Leaf → Leaf) (Makes : Page → Page → Type 0)
    (makes : (page after : Page) → IsKeptPage page → Makes page after → IsChanged change page after) where
  place_of : (book : Book) (page after : Page) → IsKeptBook book → page_at book id ≡ Some page → Makes page after
      → (n : ℕ) × IsAt id change book page after n
  place_of book page after kept at made = is_at id change book page after kept at (makes page after (kept_at book id page kept at) made)

  page_stops : Survives old new (λ db. UpdatesLeaf (Shows old) (HasLeaves db) id change) → StopsSetting old new id Makes
  page_stops one = survives_weaker old new _ _ (λ _ db done book page after shows at made.
      let (n, place) = place_of book page after shows.0 at made in
      (place.keeps, subst (HasLeaves db) place.leaves (done (leaves_of book) n (leaf_of page) shows.1 place.id_is place.leaf_at))) one

  pub page_set : {X Y : Type 0} (x : X) (y : Y) → Updates old new id change (Ok y) → RunsSetting old new id Makes (Ok x)
  page_set x y update = record {
    stored = λ clean book page after holds at made.
        let (n, place) = place_of book page after holds.0 at made in
        let (wrote, stays) = update.done clean (leaves_of book) n (leaf_of page) holds.1 place.id_is place.leaf_at in
        ((place.keeps, subst (Holds new) place.leaves wrote), stays);
    kept = tt;
    outside = tt;
    stop = page_stops update.stop;
    cause = tt;
  }

  pub page_unset : {X Y : Type 0} (error : Error) (fault : BookFault) → IsOutside fault → (IsMemory error → fault ≡ Memory)
      → Updates {X = Y} old new id change (Err error) → RunsSetting {X = X} old new id Makes (Err fault)
  page_unset error fault outside memory update = record {
    stored = tt;
    kept = λ clean book holds. (tt, (holds.0, update.kept clean (leaves_of book) holds.1));
    outside = outside;
    stop = page_stops update.stop;
    cause = λ database clean book page after holds at made.
        let (n, place) = place_of book page after holds.0 at made in
        let leaf = change (leaf_of page) in
        let apart = subst AreApart (sym place.leaves) (kept_apart (with_page book id after) place.keeps) in
        elim (update.cause clean (leaves_of book) n (leaf_of page) holds.1 place.id_is place.leaf_at apart) [
          | inl big ↦
              let there = subst (λ l. slice_get l n ≡ Some leaf) place.leaves (set_get (leaves_of book) n (leaf_of page) leaf place.leaf_at) in
              inl (n, leaf, there, subst (λ i. IsTooBig i leaf) place.id_is big)
          | inr excused ↦ elim excused [ inl none ↦ absurd (let e = memory none in cc) | inr cause ↦ inr cause ]
        ];
  }

-- ---- the same page

set_same : {X : Type 0} (xs : List X) (n : ℕ) (x : X) → slice_get xs n ≡ Some x → slice_set xs n x ≡ xs
set_same [] n x at = refl
set_same (y ∷ ys) zero x at = ap (λ z. z ∷ ys) (sym (same_Some y x at))
set_same (y ∷ ys) (suc n) x at = ap (λ l. y ∷ l) (set_same ys n x at)

pub with_same_page : (book : Book) (id : ℕ) (page : Page) → page_at book id ≡ Some page → with_page book id page ≡ book
with_same_page book zero page at = absurd (none-some page at)
with_same_page book (suc n) page at = ap (λ m. slice_set book m page) (one_less n) ∙ set_same book n page at

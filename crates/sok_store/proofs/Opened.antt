-- A table that is read is that of a book.
use Rattle.std.proofs.Common.{◌≡◌, inl, inr, sym, ap, subst, ◌∙◌, List, [], map, IsTrue, arith}
use Rattle.std.specs.List.Sorted.{IsPermutation}
use Rattle.sqlite.specs.Order.{Row}
use Rattle.sqlite.specs.Effect.{Database}
use Rattle.sqlite.specs.declared.error.Error.{Error}
use Rattle.sqlite.specs.Tree.{Trees}
use Rattle.sqlite.specs.State.{State, HasCleanDisk, Survives}
use Rattle.sqlite.proofs.StateLemmas.{survives_then, survives_weaker}
use Rattle.sok_book.specs.declared.fault.BookFault.{BookFault}
use Rattle.sok_book.specs.declared.fault.BookFault.TheVariants.{Memory}
use Rattle.sok_book.specs.declared.fault.BookFault.TheVariants as told
use Rattle.sok_sql.specs.Causes.{HasCause, HasTable, IsEmpty, IsExcused, IsMemory, IsMissing}
use Rattle.sok_book.specs.Books.{Book}
use Rattle.sok_sql.specs.Connections.{IsSame, IsSettled, LeavesEmpty, Rests}
use Rattle.sok_sql.specs.Leaves.{HasLeaves, ListsTable, level_schema, no_schema, seen, shown_from}
use Rattle.sok_store.specs.Rows.{IsKeptBook, leaves_of}
use Rattle.sok_store.specs.Opening.{IsCausedOpening, LeavesOpening, Opens}
use Rattle.sok_store.proofs.Caused.{cause_after, cause_before}

module _ (old new : State) (rows : List Row) (settled : IsSettled old)
    (found : HasCleanDisk new → old.now.schema ≡ level_schema → ListsTable (old.now.trees 0) rows × IsSame old new)
    (none : HasCleanDisk new → old.now.schema ≡ no_schema → ⊥) (is_open : HasCleanDisk new → IsTrue new.is_open) where
  pub opens_read : HasCleanDisk new → (book : Book) → IsKeptBook book → rows ≡ shown_from 1 (leaves_of book) → Opens old new
  opens_read clean book kept is = record {
    made = λ empty. absurd (none clean empty);
    found = λ has.
        let (lists, same) = found clean has in
        let up = is_open clean in
        let (was, now, committed, mode) = same up in
        let rows_are : HasLeaves old.now.trees (leaves_of book) = subst (IsPermutation (map seen (old.now.trees 0))) is lists.same in (
          book,
          (kept, rows_are),
          (
            kept,
            (
              up,
              record {
                schema = ap (λ (d : Database). d.schema) now ∙ has;
                rows = subst (λ (d : Database). HasLeaves d.trees (leaves_of book)) (sym now) rows_are;
                settled = committed ∙ sym (settled was).0 ∙ sym now;
                autocommit = mode;
              },
            ),
          ),
        );
  }

-- ---- a stop in the middle

no_pages : IsKeptBook []
no_pages = record { pages = λ n page at. absurd cc; once = λ m n page other at. absurd cc; few = omega arith }

-- where the rows are read
pub read_stops : (old new : State) → Rests old new → Survives old new (LeavesOpening old)
read_stops old new rests = survives_weaker old new _ _ (λ _ db none. (λ empty. absurd (none (inl empty)), λ has. none (inr has))) rests.stop

-- and where the table is made then
pub made_stops : (old mid new : State) → Rests old mid → (HasCleanDisk mid → IsTrue mid.is_open) → (HasCleanDisk mid → IsSame old mid)
    → Survives mid new (LeavesEmpty mid) → Survives old new (LeavesOpening old)
made_stops old mid new rests up same two =
    survives_then old mid new _ _ _ (λ _ db none. (λ empty. absurd (none (inl empty)), λ has. none (inr has))) (λ clean db leaves.
    let early : HasCleanDisk mid = omega (arith, clean, two.clean) in
    let schema : mid.now.schema ≡ old.now.schema = ap (λ (d : Database). d.schema) (same early (up early)).1 in
    (λ empty. (no_pages, leaves.0 (schema ∙ empty)), λ has. leaves.1 (schema ∙ has))) rests.stop two

-- ---- why nothing was opened

caused : (old new : State) (error : Error) (fault : BookFault) → (IsMemory error → fault ≡ Memory) → fault ≡ told.Database → IsExcused old new error
    → HasCause old new
caused old new error fault memory database (inl none) = absurd (let e = memory none in cc)
caused old new error fault memory database (inr why) = why

-- the table was not made
pub unmade_caused : (old mid new : State) (missing error : Error) (fault : BookFault) → IsSettled old → IsMissing missing
    → (IsMemory error → fault ≡ Memory) → (HasCleanDisk mid → HasTable old → IsExcused old mid missing)
    → (HasCleanDisk mid → IsSettled old → IsSame old mid) → (HasCleanDisk new → IsEmpty mid → IsExcused mid new error)
    → (P Q : Trees → Type 0) → Survives old mid P → Survives mid new Q → IsCausedOpening old new fault
unmade_caused old mid new missing error fault settled is memory table same made P Q one two database clean (inl none) =
    let early : HasCleanDisk mid = omega (arith, clean, two.clean) in
    let empty = λ (up : IsTrue mid.is_open). ap (λ (d : Database). d.schema) (same early settled up).1 ∙ none in
    cause_before old mid new P Q one two clean (caused mid new error fault memory database (made clean empty))
unmade_caused old mid new missing error fault settled is memory table same made P Q one two database clean (inr has) =
    let early : HasCleanDisk mid = omega (arith, clean, two.clean) in
    elim (table early (λ _. has)) [ inl none ↦ absurd (let e = sym is ∙ none in cc) | inr why ↦ cause_after old mid new Q two why ]

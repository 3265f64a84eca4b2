-- A row is read after those before it: from what single calls tell to what has been read.
use Rattle.std.proofs.Common.{◌≡◌, ◌⊎◌, ◌||◌, sym, ap, subst, ◌∙◌, ℕ, ℤ, suc, ◌+◌, ◌<◌, ◌≤◌, pos, List, [], ◌∷◌, ◌++◌, Bool, true, false}
use Rattle.std.proofs.Common.{arith, bytes_eq, drop, get_or, length, take, Result, Ok, Err, IfErr, OnOk}
use Rattle.std.proofs.Math.Seq.{split_at}
use Rattle.std.proofs.lemmas.List.{take_more}
use Rattle.sqlite.specs.Order.{Row}
use Rattle.sok_book.specs.declared.fault.BookFault.{BookFault}
use Rattle.sok_book.specs.declared.fault.BookFault.TheVariants.{BadBook, Memory}
use Rattle.sok_text.specs.Canonical.{level_text}
use Rattle.sok_book.specs.Books.{Book, PageWithId}
use Rattle.sok_book.specs.Commands.{level_limit}
use Rattle.sok_sql.specs.Leaves.{shown_from}
use Rattle.sok_store.specs.Rows.{leaves_of}
use Rattle.sok_store.specs.BadRows.{IsFirstBad}
use Rattle.sok_store.specs.ReadRows.{IsNoRecordIn, IsRead, IsRecordIn}
use Rattle.sok_store.proofs.ReadRows.{Gives, Gives-next, IsFirstBad-here, Refuses, Refuses-next, Refuses-unread}
use Rattle.sok_store.proofs.ReadRows.{length-records, rows-push}

module _ (records : List PageWithId) (has : List ℕ → Bool) (row : Row) (place : ℕ) (here : place ≡ length records + 1) where
  module _ (kept : PageWithId) (is : IsRecordIn place row kept) (result : Result (Unit {0}) BookFault) where
    next : IsRecordIn (length records + 1) row kept
    next = subst (λ n. IsRecordIn n row kept) here is

    pub Gives-added : (records_after : List PageWithId) (after : List ℕ → Bool) → OnOk result (place ≤ level_limit)
        → OnOk result (has (level_text kept.page.level) ≡ false)
        → OnOk result (records_after ≡ records ++ kept ∷ [])
        → OnOk result ((text : List ℕ) → after text ≡ (bytes_eq (level_text kept.page.level) text || has text))
        → OnOk result ((book : Book) → IsRead book records has → Gives book row records_after after)
    Gives-added records_after after = elim result as (λ r. OnOk r (place ≤ level_limit) → OnOk r (has (level_text kept.page.level) ≡ false)
        → OnOk r (records_after ≡ records ++ kept ∷ [])
        → OnOk r ((text : List ℕ) → after text ≡ (bytes_eq (level_text kept.page.level) text || has text))
        → OnOk r ((book : Book) → IsRead book records has → Gives book row records_after after)) [
          | Ok done ↦ λ few fresh are texts book read.
              subst (λ r. Gives book row r after) (sym are)
              (Gives-next records has row kept next after (subst (λ n. n ≤ level_limit) here few) fresh texts book read)
          | Err fault ↦ λ few fresh are texts. tt
        ]

    pub Refuses-added : IfErr result (λ fault. (fault ≡ Memory) ⊎ ((fault ≡ BadBook (pos place))
        × ((level_limit < place) ⊎ (has (level_text kept.page.level) ≡ true)))) → IfErr result (Refuses records has row)
    Refuses-added = elim result as (λ r. IfErr r (λ fault. (fault ≡ Memory) ⊎ ((fault ≡ BadBook (pos place))
        × ((level_limit < place) ⊎ (has (level_text kept.page.level) ≡ true)))) → IfErr r (Refuses records has row)) [
          | Ok done ↦ λ refused. tt
          | Err fault ↦ λ refused.
              Refuses-next records has row kept next fault
              (subst (λ n. (fault ≡ Memory) ⊎ ((fault ≡ BadBook (pos n)) × ((level_limit < n) ⊎ (has (level_text kept.page.level) ≡ true)))) here refused)
        ]

  pub Refuses-unreadable : (fault : BookFault) → IsNoRecordIn place row fault → Refuses records has row fault
  Refuses-unreadable fault refused = Refuses-unread records has row fault (subst (λ n. IsNoRecordIn n row fault) here refused)

-- ---- all rows

-- the first rows are those of a book, which has been read
pub record IsSeen (rows : List Row) (i : ℕ) (records : List PageWithId) (has : List ℕ → Bool) : Type 0 where
  pub book : Book
  pub seen : take i rows ≡ shown_from 1 (leaves_of book)
  pub read : IsRead book records has

module _ (rows : List Row) (i : ℕ) (records : List PageWithId) (has : List ℕ → Bool) (s : IsSeen rows i records has) where
  pub few-seen : length records ≤ level_limit
  few-seen = let long = length-records s.book records s.read.records_are in omega (arith, long, s.read.kept.few)

  module _ (row : Row) (within : i < length rows) (here : row ≡ get_or rows i row) where
    pub IsSeen-more : (records_after : List PageWithId) (after : List ℕ → Bool)
        → ((book : Book) → IsRead book records has → Gives book row records_after after) → IsSeen rows (i + 1) records_after after
    IsSeen-more records_after after gives =
        let (page, follows, read) = gives s.book s.read in
        record {
          book = s.book ++ page ∷ [];
          seen = take_more rows i row within ∙ ap (λ r. take i rows ++ r ∷ []) (sym here)
              ∙ rows-push (take i rows) row s.book page s.seen follows;
          read = read;
        }

    pub IsFirstBad-seen : (fault : BookFault) → Refuses records has row fault
        → (fault ≡ Memory) ⊎ ((id : ℤ) × (fault ≡ BadBook id) × IsFirstBad rows id)
    IsFirstBad-seen fault refuses =
        let split = split_at rows i row within ∙ ap (λ r. take i rows ++ r ∷ drop (suc i) rows) (sym here) in
        IsFirstBad-here rows (take i rows) (drop (suc i) rows) row s.book records has fault split s.seen s.read refuses

-- What a query leaves of a connection that holds the table, and what it answers.
use Rattle.std.proofs.Common.{◌≡◌, ℕ, ◌+◌, pos, List, [], ◌∷◌, map, false, slice_get, inl, inr, sym, ap, subst, ◌∙◌, is_ok, Result, Ok, Err, IfOk, IfErr}
use Rattle.sqlite.specs.declared.types.Value.TheVariants.{Null, Int, Text as Words}
use Rattle.sqlite.specs.Order.{Row}
use Rattle.sqlite.specs.Tree.{Trees}
use Rattle.sqlite.specs.Listing.{understood, reads_listing}
use Rattle.sqlite.specs.Query.{Query, IsAnswer}
use Rattle.sqlite.specs.Program.{overlay}
use Rattle.sqlite.specs.State.{State, CommitsShowing, FailsToQuery, HasCleanDisk, Shown, Survives}
use Rattle.sqlite.proofs.StateLemmas.{survives_weaker}
use Rattle.sqlite.specs.declared.error.Error.{Error}
use Rattle.sqlite.proofs.Callers.{IsPlain, never_commits, command_of, reads_as}
use Rattle.sok_sql.specs.Leaves.{Leaf, HasLeaves, ListsTable, level_schema, no_schema, shown_from, row_at, id_row, ids_with, last_ids}
use Rattle.sok_sql.specs.Connections.{Stores, Holds, IsKnown, IsSame, IsSettled, Rests}
use Rattle.sok_sql.proofs.Texts.{select_of, names, pick_query, whole, all_query, find_query, last_query, one_text, one_is, one_plain, one_unlisted}
use Rattle.sok_sql.proofs.Texts.{all_text, all_is, all_plain, all_unlisted, all_missing, find_text, find_is, find_plain, find_unlisted}
use Rattle.sok_sql.proofs.Texts.{last_text, last_is, last_plain, last_unlisted}
use Rattle.sok_sql.proofs.Choosing.{reads_one}
use Rattle.sok_sql.proofs.Listing.{lists, lists_table, finds, lasts}
use Rattle.sok_sql.proofs.Calls.{shown_open, shown_same, unchanged_holds, unchanged_same, undone_holds, unread_undone}

-- a stop in the middle of a query leaves what was there
query_commits : (s : State) (sql : List ℕ) (params : Row) (db : Trees) → IsPlain (understood level_schema sql) → is_ok (understood no_schema sql) ≡ false
    → IsKnown s → ¬ CommitsShowing sql params s db
unfolding CommitsShowing
query_commits s sql params db plain missing (inl none) =
    λ h. absurd (let e = sym (ap is_ok h.1.is) ∙ ap (λ t. is_ok (understood t sql)) none ∙ missing in cc)
query_commits s sql params db plain missing (inr has) = never_commits sql params s db (subst (λ x. IsPlain (understood x sql)) (sym has) plain)

module _ (old new : State) (leaves : List Leaf) (holds : Holds old leaves) where
  query_holds : (sql : List ℕ) (params : Row) → IsPlain (understood level_schema sql) → (rows : List Row) → Shown sql params old new rows → Holds new leaves
  query_holds sql params plain rows h =
      let was = holds (shown_open old new sql params rows h).0 in
      unchanged_holds old new leaves holds (shown_same old new sql params rows (subst (λ s. IsPlain (understood s sql)) (sym was.schema) plain) h)

  -- a query answers as its text means, and nothing has changed
  answers : (sql : List ℕ) (params : Row) (query : Query) (columns : List (List ℕ)) → command_of (understood level_schema sql) ≡ select_of query columns
      → IsPlain (understood level_schema sql) → reads_listing level_schema sql ≡ false → (rows : List Row) → Shown sql params old new rows
      → Stores new leaves × HasLeaves old.now.trees leaves × IsAnswer query (overlay old.now.trees []) params rows
  answers sql params query columns is plain unlisted rows h =
      let was = holds (shown_open old new sql params rows h).0 in
      let read = reads_as sql params old new level_schema was.schema _ is plain unlisted rows h in
      let same = shown_same old new sql params rows (subst (λ s. IsPlain (understood s sql)) (sym was.schema) plain) h in
      ((same.0.is_open, unchanged_holds old new leaves holds same same.0.is_open), was.rows, read.answer Null)

  pub all_answers : (rows : List Row) → Shown all_text [] old new rows → Stores new leaves × (rows ≡ shown_from 1 leaves)
  all_answers rows h =
      let a = answers all_text [] all_query names all_is all_plain all_unlisted rows h in
      (a.0, lists old.now.trees leaves rows a.1 a.2)

  pub one_answers : (id index : ℕ) → id ≡ 1 + index → (rows : List Row) → Shown one_text (Int (pos id) ∷ []) old new rows
      → Stores new leaves × (rows ≡ row_at id (slice_get leaves index))
  one_answers id index is rows h =
      let a = answers one_text (Int (pos id) ∷ []) (pick_query whole) names one_is one_plain one_unlisted rows h in
      (a.0, reads_one id index old.now.trees leaves rows a.1 is a.2)

  pub find_answers : (text : List ℕ) (rows : List Row) → Shown find_text (Words text ∷ []) old new rows
      → Stores new leaves × (rows ≡ map id_row (ids_with text 1 leaves))
  find_answers text rows h =
      let a = answers find_text (Words text ∷ []) find_query _ find_is find_plain find_unlisted rows h in
      (a.0, finds text old.now.trees leaves rows a.1 a.2)

  pub last_answers : (rows : List Row) → Shown last_text [] old new rows → Stores new leaves × (rows ≡ map id_row (last_ids leaves))
  last_answers rows h =
      let a = answers last_text [] last_query _ last_is last_plain last_unlisted rows h in
      (a.0, lasts old.now.trees leaves rows a.1 a.2)

-- a query leaves the rows, whether it is answered or not
module _ {A : Type 0} (items : A → List Row) (old new : State) (sql : List ℕ) (params : Row) (plain : IsPlain (understood level_schema sql))
    (missing : is_ok (understood no_schema sql) ≡ false) where
  rests : HasCleanDisk new → (leaves : List Leaf) → Holds old leaves → (r : Result A Error) → IfOk r (λ rows. Shown sql params old new (items rows))
      → IfErr r (FailsToQuery sql params old new) → Holds new leaves
  rests clean leaves holds (Ok rows) h none = query_holds old new leaves holds sql params plain (items rows) h
  rests clean leaves holds (Err e) none h = undone_holds old new leaves holds (unread_undone old new sql params e h)

  pub query_rests : Survives old new (CommitsShowing sql params old) → (result : Result A Error)
      → (HasCleanDisk new → IfOk result (λ rows. Shown sql params old new (items rows)))
      → (HasCleanDisk new → IfErr result (FailsToQuery sql params old new)) → Rests old new
  query_rests stop result shown fails = record {
    kept = λ clean leaves holds. rests clean leaves holds result (shown clean) (fails clean);
    stop = survives_weaker old new _ _ (λ _ db h known. query_commits old sql params db plain missing known h) stop;
  }

-- the rows that are found, of whatever the table has
pub found_rows : (old new : State) → IsSettled old → (rows : List Row) → old.now.schema ≡ level_schema → Shown all_text [] old new rows
    → ListsTable (old.now.trees 0) rows × IsSame old new
found_rows old new settled rows has h =
    let read = reads_as all_text [] old new level_schema has _ all_is all_plain all_unlisted rows h in
    let plain = subst (λ s. IsPlain (understood s all_text)) (sym has) all_plain in
    (lists_table old.now.trees rows (read.answer Null), unchanged_same old new settled (shown_same old new all_text [] rows plain h))

-- none where there is no table
pub none_found : (old new : State) (rows : List Row) → old.now.schema ≡ no_schema → Shown all_text [] old new rows → ⊥
unfolding Shown
none_found old new rows has h = absurd (let e = sym (ap is_ok h.1.is) ∙ ap (λ s. is_ok (understood s all_text)) has ∙ all_missing in cc)

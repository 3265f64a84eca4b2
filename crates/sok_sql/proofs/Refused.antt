-- Why a query of the table is refused.
use Rattle.std.proofs.Common.{◌≡◌, ◌⊎◌, inl, inr, ℕ, List, [], true, false, None, Ok, Err, Result, length}
use Rattle.std.proofs.Common.{refl, sym, ap, subst, subst₂, ◌∙◌, append-nil, arith, ◌+◌, ◌<◌, ◌≤◌, pos, ◌∷◌}
use Rattle.std.proofs.Common.{Bool, bytes_eq, if◌then◌else◌, slice_get, IfErr, IfSome, IsTrue, Some}
use Rattle.sqlite.specs.declared.types.Value.TheVariants.{Int, Text as Words}
use Rattle.std.proofs.lemmas.Bool.{cases_Bool}
use Rattle.std.proofs.lemmas.Bool.Decides.{nat_tests}
use Rattle.sqlite_typing.specs.Types.{accepts_program}
use Rattle.sqlite_sql.specs.Query.{inner, end, Query}
use Rattle.sqlite_sql.specs.Program.{QueryOverflows}
use Rattle.sqlite_trees.specs.declared.error.StoreError.{StoreError}
use Rattle.sqlite_trees.specs.declared.error.StoreError.TheVariants.{OutOfMemory, Io, Corrupt, Full, Broken, Unstorable}
use Rattle.sqlite.specs.declared.error.Error.{Error}
use Rattle.sqlite.specs.Order.{Row}
use Rattle.sqlite.specs.Schema.{Schema}
use Rattle.sqlite.specs.Tree.{Trees}
use Rattle.sqlite.specs.Effect.{RefusesToRead}
use Rattle.sqlite.specs.Listing.{understood, reads_listing, IsSourceOf}
use Rattle.sqlite.specs.State as st
use Rattle.sqlite.specs.State.{State, Fails, FailsToQuery, FailsToShow, IsNoStatement, IsNotRun, store_error}
use Rattle.sqlite.specs.Clock.{timed}
use Rattle.sqlite.proofs.Callers.{IsPlain, command_of}
use Rattle.sqlite.specs.declared.error.Error.TheVariants.{SqlInputError}
use Rattle.sqlite_resolve.specs.declared.error.CompileError.TheVariants.{NoSuchTable}
use Rattle.sok_sql.specs.Leaves.{Leaf, level_schema, no_schema, ids_with}
use Rattle.sok_sql.specs.Causes.{IsEmpty, IsMissing, HasTable, IsExcused, IsMemory}
use Rattle.sok_sql.proofs.Texts.{IsPosed, select_of, names, pick_query, whole, one_text, one_is, one_plain, one_unlisted, one_posed}
use Rattle.sok_sql.proofs.Texts.{missing_is, all_text, all_query, all_is, all_plain, all_unlisted, all_posed}
use Rattle.sok_sql.proofs.Texts.{find_text, find_query, find_is, find_plain, find_unlisted}
use Rattle.sok_sql.proofs.Texts.{find_posed, last_text, last_query, last_is, last_plain, last_unlisted, last_posed}

-- no sum is made, so none overflows
pub calm : (query : Query) (db : Trees) (params : Row) → query.group ≡ None → query.from ≡ inner 0 end → QueryOverflows query db params → ⊥
calm query db params group from (inl sum) = rw group at sum
calm query db params group from (inr fold) = (rw from at fold).4

module _ (old new : State) where
  -- the store failed, and why
  pub failed : (Big : Type 0) (e : Error) → Fails old new Big e → Big ⊎ IsExcused old new e
  failed Big e (cause, is, why, back, tells) = go cause is why
    where
      go : (cause : StoreError) → e ≡ store_error cause → st.HasCause old new Big cause → Big ⊎ IsExcused old new e
      go OutOfMemory is why = inr (inl is)
      go Io is why = inr (inr (inr (inr why)))
      go Corrupt is why = inr (inr (inr (inr why)))
      go Full is why = inr (inr (inr (inr why)))
      go Broken is why = inr (inr (inl why))
      go Unstorable is why = inl why

  -- and that it did is never told as a table that is not there
  not_missing : (Big : Type 0) (e : Error) → Fails old new Big e → IsMissing e → ⊥
  not_missing Big e (cause, is, why, back, tells) missing = go cause (sym is ∙ missing)
    where
      go : (cause : StoreError) → store_error cause ≡ SqlInputError NoSuchTable → ⊥
      go OutOfMemory same = absurd cc
      go Io same = absurd cc
      go Corrupt same = absurd cc
      go Full same = absurd cc
      go Broken same = absurd cc
      go Unstorable same = absurd cc

  -- so the connection is open where the table is not there
  pub missing_open : (sql : List ℕ) (params : Row) (e : Error) → FailsToQuery sql params old new e → IsMissing e → IsTrue new.is_open
  unfolding FailsToQuery IsNotRun
  missing_open sql params e (inl (inl h)) missing = h.1.0.is_open
  missing_open sql params e (inl (inr h)) missing = absurd (not_missing ⊥ e h missing)
  missing_open sql params e (inr h) missing =
      elim h.0.returning as (λ r. FailsToShow old new sql h.0 (timed params h.0.formats h.1.now) e r → IsTrue new.is_open) [
        | None ↦ λ it. it.3.0.is_open
        | Some what ↦ λ it. elim it [ inl same ↦ same.1.0.is_open | inr fails ↦ absurd (not_missing _ e fails missing) ]
      ] h.2

  -- a connection that was shut is a cause
  pub if_open : HasTable old → (e : Error) → (old.now.schema ≡ level_schema → IsExcused old new e) → IsExcused old new e
  if_open table e known = elim (cases_Bool old.is_open) [ inl up ↦ known (table up) | inr shut ↦ inr (inl shut) ]

  module _ (schema : Schema) (sql : List ℕ) (params : Row) (has : old.now.schema ≡ schema) (plain : IsPlain (understood schema sql))
      (posed : IsPosed sql (length params) (understood schema sql)) where
    -- the text is one statement under the schema
    pub is_statement : (e : Error) → IsNoStatement old sql params e → ⊥
    is_statement e (inl (fault, is, named)) =
        subst (IsPosed sql (length params)) is (subst (λ s. IsPosed sql (length params) (understood s sql)) (sym has) posed)
    is_statement e (inr (c, is, why)) =
        let whole = subst (IsPosed sql (length params)) is (subst (λ s. IsPosed sql (length params) (understood s sql)) (sym has) posed) in
        let bare = subst IsPlain is (subst (λ s. IsPlain (understood s sql)) (sym has) plain) in
        elim why [
          | inl (longer, named) ↦ longer (grind (arith, nat_tests, whole.0))
          | inr (inl (others, named)) ↦ others whole.1
          | inr (inr (formats, named)) ↦ formats bare.1
        ]

    pub query_refused : (query : Query) (columns : List (List ℕ)) → command_of (understood schema sql) ≡ select_of query columns
        → reads_listing schema sql ≡ false → accepts_program schema [] query params ≡ true
        → query.group ≡ None → query.from ≡ inner 0 end → (e : Error) → FailsToQuery sql params old new e → IsExcused old new e
    unfolding FailsToQuery IsNotRun
    query_refused query columns is unlisted typed group from e (inl (inl h)) = absurd (is_statement e h.0)
    query_refused query columns is unlisted typed group from e (inl (inr h)) = elim (failed ⊥ e h) [ inl big ↦ absurd big | inr why ↦ why ]
    query_refused query columns is unlisted typed group from e (inr h) =
        let known = sym h.1.is ∙ ap (λ s. understood s sql) has in
        let bare = subst IsPlain (sym known) plain in
        let it = rw (bare.0, bare.1, append-nil params) at h.2 in
        let db : it.0 ≡ old.now = subst (λ b. IsSourceOf b old.now it.0) (ap (λ s. reads_listing s sql) has ∙ unlisted) it.1 in
        let why = subst₂ (λ k d. RefusesToRead old.step_limit k d params e) {u = it.0} (ap command_of known ∙ is) db it.2 in
        elim why [
          | inl (mismatch, refused) ↦ absurd (let all = subst (λ s. accepts_program s [] query params ≡ true) (sym has) typed in cc)
          | inr (inl (overflow, sum)) ↦ absurd (calm query _ params group from sum)
          | inr (inr (stopped, some)) ↦ inr (inr (inl some))
        ]

-- ---- the four queries

module _ (old new : State) (table : HasTable old) (e : Error) where
  pub all_refused : FailsToQuery all_text [] old new e → IsExcused old new e
  all_refused h = if_open old new table e (λ has.
      query_refused old new level_schema all_text [] has all_plain all_posed all_query names all_is all_unlisted refl refl refl e h)

  pub one_refused : (id : ℕ) → FailsToQuery one_text (Int (pos id) ∷ []) old new e → IsExcused old new e
  one_refused id h = if_open old new table e (λ has.
      query_refused old new level_schema one_text (Int (pos id) ∷ []) has one_plain one_posed (pick_query whole) names one_is one_unlisted refl refl refl e h)

  pub find_refused : (text : List ℕ) → FailsToQuery find_text (Words text ∷ []) old new e → IsExcused old new e
  find_refused text h = if_open old new table e (λ has.
      query_refused old new level_schema find_text (Words text ∷ []) has find_plain find_posed find_query _ find_is find_unlisted refl refl refl e h)

  pub last_refused : FailsToQuery last_text [] old new e → IsExcused old new e
  last_refused h = if_open old new table e (λ has.
      query_refused old new level_schema last_text [] has last_plain last_posed last_query _ last_is last_unlisted refl refl refl e h)

-- there is no such table where there is nothing
pub missing_refused : (old new : State) → IsEmpty old → (e : Error) → FailsToQuery all_text [] old new e → IsMissing e ⊎ IsExcused old new e
unfolding FailsToQuery IsNotRun
missing_refused old new empty e h = elim (cases_Bool old.is_open) [ inl up ↦ go (empty up) h | inr shut ↦ inr (inr (inl shut)) ]
  where
    go : old.now.schema ≡ no_schema → FailsToQuery all_text [] old new e → IsMissing e ⊎ IsExcused old new e
    go has (inl (inl ((inl (fault, is, named)), same))) =
        let both : Err NoSuchTable ≡ Err fault = sym missing_is ∙ sym (ap (λ s. understood s all_text) has) ∙ is in
        let fault_is : fault ≡ NoSuchTable = cc in
        inl (named ∙ ap SqlInputError fault_is)
    go has (inl (inl ((inr (c, is, why)), same))) =
        absurd (let both : Err NoSuchTable ≡ Ok c = sym missing_is ∙ sym (ap (λ s. understood s all_text) has) ∙ is in cc)
    go has (inl (inr fails)) = elim (failed old new ⊥ e fails) [ inl big ↦ absurd big | inr why ↦ inr why ]
    go has (inr shown) =
        absurd (let both : Err NoSuchTable ≡ Ok shown.0 = sym missing_is ∙ sym (ap (λ s. understood s all_text) has) ∙ shown.1.is in cc)

-- ---- an id that is read fits a `u32`

pub ids_fit : (text : List ℕ) (from top : ℕ) (leaves : List Leaf) → from + length leaves ≤ top
    → IfSome (slice_get (ids_with text from leaves) 0) (λ id. id < top)
ids_fit text from top [] few = tt
ids_fit text from top (leaf ∷ more) few = go (bytes_eq leaf.text text) (ids_fit text (from + 1) top more (omega (arith, few)))
  where
    go : (same : Bool) → IfSome (slice_get (ids_with text (from + 1) more) 0) (λ id. id < top)
        → IfSome (slice_get (if same then from ∷ ids_with text (from + 1) more else ids_with text (from + 1) more) 0) (λ id. id < top)
    go true later = omega (arith, few)
    go false later = later

pub memory_excused : {A : Type 0} (old new : State) (r : Result A Error) → IfErr r IsMemory → IfErr r (IsExcused old new)
memory_excused old new (Ok x) why = tt
memory_excused old new (Err e) why = inl why

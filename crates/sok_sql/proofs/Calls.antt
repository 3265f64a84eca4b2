-- What any call leaves of a connection.
use Rattle.std.proofs.Common.{◌≡◌, ◌⊎◌, inl, inr, ℕ, List, false, Some, None, Option, Ok, Err, IsTrue}
use Rattle.std.proofs.Common.{sym, ap, subst, subst₂, ◌∙◌, append-nil}
use Rattle.std.proofs.lemmas.Bool.{cases_Bool}
use Rattle.sqlite.specs.declared.error.Error.{Error}
use Rattle.sqlite.specs.Order.{Row}
use Rattle.sqlite.specs.Tree.{Trees}
use Rattle.sqlite.specs.Command.{Command}
use Rattle.sqlite.specs.Command.TheVariants.{Select, Insert, InsertOr, Update, Delete, CreateTable, CreateIndex, DropTable, DropIndex}
use Rattle.sqlite.specs.Command.TheVariants.{Begin, Commit, Rollback, Savepoint as Save, Release, RollbackTo, Nothing, CreateView, DropView, Rows}
use Rattle.sqlite_schema.specs.declared.command.Returning.{Returning}
use Rattle.sqlite.specs.Schema.{Schema}
use Rattle.sqlite.specs.Effect.{Database}
use Rattle.sqlite.specs.Listing.{understood}
use Rattle.sqlite.specs.State as st
use Rattle.sqlite.specs.State.{State, IsUnchanged, IsRolledBack, Executes, ExecutesIn, IsNotRun, FailsToQuery, Shown}
use Rattle.sqlite.specs.State.{Runs, MayCommit, CommitsBy, shows_rows, text_of}
use Rattle.sqlite.specs.Clock.{timed}
use Rattle.sqlite.proofs.Callers.{IsPlain, command_of, statement_of}
use Rattle.sok_sql.specs.Leaves.{Leaf, HasLeaves}
use Rattle.sok_sql.specs.Connections.{Holds, IsSame, IsSettled}

-- ---- an open connection was open before

module _ (old new : State) where
  runs_up : (returning : Option Returning) (command : Command) (text : List ℕ) (params : Row) (count : ℕ)
      → Runs old new returning command text params count → IsTrue new.is_open → IsTrue old.is_open
  runs_up returning (Select q names) text params count h up = absurd h
  runs_up returning (Insert at from) text params count h up = h.shown.was_open
  runs_up returning (InsertOr at how from clauses) text params count h up = h.shown.was_open
  runs_up returning (Update at q) text params count h up = h.shown.was_open
  runs_up returning (Delete at q) text params count h up = h.shown.was_open
  runs_up returning CreateTable text params count h up = h.shown.was_open
  runs_up returning (CreateIndex at) text params count h up = h.shown.was_open
  runs_up returning (DropTable at) text params count h up = h.shown.was_open
  runs_up returning (DropIndex at) text params count h up = h.shown.was_open
  runs_up returning Begin text params count h up = h.1.was_open
  runs_up returning Commit text params count h up = h.1.was_open
  runs_up returning Rollback text params count h up = h.1.was_open up
  runs_up returning (Save name) text params count h up = h.0.0.was_open
  runs_up returning (Release name) text params count h up =
      elim h.2 [ inl ends ↦ ends.1.0.was_open | inr drops ↦ drops.1.0.was_open ]
  runs_up returning (RollbackTo name) text params count h up = h.2.2.was_open
  runs_up returning (Rows values width names) text params count h up = h.0.0.was_open
  runs_up returning Nothing text params count h up = h.0.0.was_open
  runs_up returning CreateView text params count h up = h.shown.was_open
  runs_up returning (DropView at) text params count h up = h.shown.was_open

  pub ran_up : (sql : List ℕ) (params : Row) (count : ℕ) → Executes sql params old new (Ok count) → IsTrue new.is_open → IsTrue old.is_open
  unfolding ExecutesIn
  ran_up sql params count h up = elim (cases_Bool (shows_rows false h.0)) [
    | inl shows ↦ absurd (let e = (rw shows at h.2).0 in cc)
    | inr runs ↦ runs_up h.0.returning h.0.command (text_of sql h.0) (timed params h.0.formats h.1.now) count (rw runs at h.2) up
  ]

  -- a file that is shown is open, and was
  pub shown_open : (sql : List ℕ) (params : Row) (rows : List Row) → Shown sql params old new rows → IsTrue old.is_open × IsTrue new.is_open
  unfolding Shown
  shown_open sql params rows h =
      elim h.0.returning as (λ r. st.ShowsRows old new sql h.0 (timed params h.0.formats h.1.now) rows r → IsTrue old.is_open × IsTrue new.is_open) [
        | None ↦ λ it. (it.3.0.was_open, it.3.0.is_open)
        | Some what ↦ λ it. (it.1.shown.was_open, it.1.shown.is_open)
      ] h.2

  pub shown_same : (sql : List ℕ) (params : Row) (rows : List Row) → IsPlain (understood old.now.schema sql) → Shown sql params old new rows
      → IsUnchanged old new
  unfolding Shown
  shown_same sql params rows plain h =
      let none = (subst IsPlain h.1.is plain).0 in
      (subst (st.ShowsRows old new sql h.0 (timed params h.0.formats h.1.now) rows) none h.2).3

-- ---- what a statement may commit, by what its text means

pub commits_as : (sql : List ℕ) (params : Row) (s : State) (schema : Schema) → s.now.schema ≡ schema → (command : Command)
    → command_of (understood schema sql) ≡ command → IsPlain (understood schema sql) → (db : Trees) → CommitsBy sql params s db
    → MayCommit s None command (statement_of sql (understood schema sql)) params db
unfolding CommitsBy
commits_as sql params s schema has command is plain db h =
    let known = sym h.1.is ∙ ap (λ x. understood x sql) has in
    let bare = subst IsPlain (sym known) plain in
    subst₂ (λ k t. MayCommit s None k t params db) (ap command_of known ∙ is) (ap (statement_of sql) known) (rw (bare.0, bare.1, append-nil params) at h.2)

-- ---- what is refused changes nothing, or is rolled back

-- nothing has changed, or all of it is undone
abbrev pub IsUndone : State → State → Type 0
IsUndone old new = IsUnchanged old new ⊎ IsRolledBack old new

module _ (old new : State) (sql : List ℕ) (params : Row) (e : Error) where
  pub refused_undone : Executes sql params old new (Err e) → IsUndone old new
  unfolding ExecutesIn IsNotRun
  refused_undone (inl (inl h)) = inl h.1
  refused_undone (inl (inr h)) = inr h.3
  refused_undone (inr h) = elim (cases_Bool (shows_rows false h.0)) [
    | inl shows ↦ let it = rw shows at h.2 in inl it.1
    | inr runs ↦ elim (rw runs at h.2) [ inl same ↦ inl same.1 | inr fails ↦ inr fails.3 ]
  ]

  pub unread_undone : FailsToQuery sql params old new e → IsUndone old new
  unfolding FailsToQuery IsNotRun
  unread_undone (inl (inl h)) = inl h.1
  unread_undone (inl (inr h)) = inr h.3
  unread_undone (inr h) =
      elim h.0.returning as (λ r. st.FailsToShow old new sql h.0 (timed params h.0.formats h.1.now) e r → IsUndone old new) [
        | None ↦ λ it. inl it.3
        | Some what ↦ λ it. elim it [ inl same ↦ inl same.1 | inr fails ↦ inr fails.3 ]
      ] h.2

-- so the rows stay

module _ (old new : State) (leaves : List Leaf) (holds : Holds old leaves) where
  pub unchanged_holds : IsUnchanged old new → Holds new leaves
  unchanged_holds same up =
      let was = holds same.0.was_open in
      record {
        schema = ap (λ (d : Database). d.schema) same.0.now_is ∙ was.schema;
        rows = subst (λ (d : Database). HasLeaves d.trees leaves) (sym same.0.now_is) was.rows;
        settled = same.0.committed_is ∙ was.settled ∙ sym same.0.now_is;
        autocommit = same.0.mode ∙ was.autocommit;
      }

  rolled_back_holds : IsRolledBack old new → Holds new leaves
  rolled_back_holds back up =
      let was = holds (back.was_open up) in
      let undone = back.undone up in
      let now : new.now ≡ old.now = undone.0 ∙ was.settled in
      record {
        schema = ap (λ (d : Database). d.schema) now ∙ was.schema;
        rows = subst (λ (d : Database). HasLeaves d.trees leaves) (sym now) was.rows;
        settled = undone.1 ∙ sym undone.0;
        autocommit = back.autocommit;
      }

  pub undone_holds : IsUndone old new → Holds new leaves
  undone_holds (inl same) = unchanged_holds same
  undone_holds (inr back) = rolled_back_holds back

-- and whatever else there is

module _ (old new : State) (settled : IsSettled old) where
  pub unchanged_same : IsUnchanged old new → IsSame old new
  unchanged_same same up =
      let was = settled same.0.was_open in
      (same.0.was_open, same.0.now_is, same.0.committed_is, same.0.mode ∙ was.1)

  rolled_back_same : IsRolledBack old new → IsSame old new
  rolled_back_same back up =
      let open_was = back.was_open up in
      let undone = back.undone up in
      (open_was, undone.0 ∙ sym (settled open_was).0, undone.1, back.autocommit)

  pub undone_same : IsUndone old new → IsSame old new
  undone_same (inl same) = unchanged_same same
  undone_same (inr back) = rolled_back_same back

-- What a write leaves of a connection that holds the table, and what it may commit.
use Rattle.std.proofs.Common.{◌≡◌, inl, inr, ℕ, ◌+◌, pos, List, [], ◌∷◌, ◌++◌, length, Some, None, Option, Ok, IsTrue, slice_get, slice_set}
use Rattle.std.proofs.Common.{sym, ap, subst, ◌∙◌, is_ok, false}
use Rattle.sqlite.specs.declared.types.Value.TheVariants.{Int}
use Rattle.sqlite.specs.Order.{Row}
use Rattle.sqlite.specs.Tree.{Trees}
use Rattle.sqlite.specs.Term.{Term}
use Rattle.sqlite.specs.Source.TheVariants.{Values}
use Rattle.sqlite.specs.Query.{output}
use Rattle.sqlite.specs.Command.{Command}
use Rattle.sqlite.specs.Command.TheVariants.{Insert, CreateTable}
use Rattle.sqlite.specs.Effect.{Database}
use Rattle.sqlite.specs.Does.{Tally, lacks_sequence}
use Rattle.sqlite.specs.Listing.{understood}
use Rattle.sqlite.specs.State.{State, Executes, ExecutesIn, Writes, CommitsBy, MayCommit}
use Rattle.sqlite.specs.Change.{created}
use Rattle.sqlite.proofs.Callers.{IsPlain, command_of, statement_of, runs_as}
use Rattle.std.proofs.lemmas.List.Sorted.{IsPermutation-refl}
use Rattle.sok_sql.specs.Leaves.{Leaf, HasLeaves, level, level_schema, no_schema, seen, shown, new_leaf}
use Rattle.sok_sql.specs.Connections.{Shows, Holds, LeavesEmpty, StaysOpen}
use Rattle.sok_sql.proofs.Texts.{create_text, create_is, create_plain, create_statement, created_is, create_again_fails, create_defines}
use Rattle.sok_sql.proofs.Texts.{insert_text, insert_is, insert_plain, insert_terms, pick_query, update_with}
use Rattle.sok_sql.proofs.Writes.{DoesOn, went, same_value, new_params, inserted, rewritten, updated}
use Rattle.sok_sql.proofs.Calls.{ran_up, commits_as}

module _ (old new : State) (leaves : List Leaf) (holds : Holds old leaves) where
  wrote : (command : Command) (text : List ℕ) (params : Row) (count : ℕ) (after : List Leaf) → Writes old new None command text params count
      → (new.now.schema ≡ level_schema) × HasLeaves new.now.trees after → Holds new after
  wrote command text params count after w made up =
      let was = holds w.shown.was_open in
      record {
        schema = made.0;
        rows = made.1;
        settled = rw was.autocommit at w.shown.committed_is;
        autocommit = w.shown.mode ∙ was.autocommit;
      }

  pub insert_holds : (id : ℕ) (text : List ℕ) (title : Option (List ℕ)) (count : ℕ) → id ≡ 1 + length leaves
      → Executes insert_text (new_params id text title) old new (Ok count) → Holds new (leaves ++ new_leaf text title ∷ [])
  insert_holds id text title count is h up =
      let params = new_params id text title in
      let command = Insert 0 (Values insert_terms 8) in
      let sql = statement_of insert_text (understood level_schema insert_text) in
      let was = holds (ran_up old new insert_text params count h up) in
      let w = runs_as insert_text params old new level_schema was.schema command insert_is insert_plain count h in
      let does = subst (DoesOn old.now.trees old.step_limit params sql command w.tally new.now) was.schema w.changed in
      wrote command sql params count (leaves ++ new_leaf text title ∷ []) w
      (inserted old.step_limit old.now.trees sql id text title leaves w.tally new.now was.rows is does) up

  pub insert_open : (id : ℕ) (text : List ℕ) (title : Option (List ℕ)) (count : ℕ) → Executes insert_text (new_params id text title) old new (Ok count)
      → StaysOpen old new
  insert_open id text title count h up =
      let was = holds up in
      (runs_as insert_text (new_params id text title) old new level_schema was.schema (Insert 0 (Values insert_terms 8)) insert_is insert_plain count h).shown.is_open

  pub update_open : (sql : List ℕ) (project : List Term) (params : Row) → command_of (understood level_schema sql) ≡ update_with project
      → IsPlain (understood level_schema sql) → (count : ℕ) → Executes sql params old new (Ok count) → StaysOpen old new
  update_open sql project params is plain count h up =
      (runs_as sql params old new level_schema (holds up).schema (update_with project) is plain count h).shown.is_open

  module _ (sql : List ℕ) (project : List Term) (more : Row) (out : Row → Row) (id : ℕ)
      (is : command_of (understood level_schema sql) ≡ update_with project) (plain : IsPlain (understood level_schema sql))
      (puts : (r : Row) → output (pick_query project) ((Int (pos id) ∷ more) ∷ r ∷ []) ≡ ([], out (seen r))) where
    pub update_holds : (index : ℕ) (it after : Leaf) (count : ℕ) → id ≡ 1 + index → slice_get leaves index ≡ Some it → out (shown id it) ≡ rewritten id after
        → Executes sql (Int (pos id) ∷ more) old new (Ok count) → Holds new (slice_set leaves index after)
    update_holds index it after count at found becomes h up =
        let params = Int (pos id) ∷ more in
        let text = statement_of sql (understood level_schema sql) in
        let was = holds (ran_up old new sql params count h up) in
        let w = runs_as sql params old new level_schema was.schema (update_with project) is plain count h in
        let does = subst (DoesOn old.now.trees old.step_limit params text (update_with project) w.tally new.now) was.schema w.changed in
        wrote (update_with project) text params count (slice_set leaves index after) w
        (updated project more out id puts old.step_limit old.now.trees text after it index leaves w.tally new.now was.rows at found becomes does) up

-- ---- what a stop in the middle may leave

module _ (s : State) (leaves : List Leaf) (was : Shows s leaves) (db : Trees) where
  pub insert_commits : (id : ℕ) (text : List ℕ) (title : Option (List ℕ)) → id ≡ 1 + length leaves → CommitsBy insert_text (new_params id text title) s db
      → HasLeaves db (leaves ++ new_leaf text title ∷ [])
  insert_commits id text title is h =
      let params = new_params id text title in
      let command = Insert 0 (Values insert_terms 8) in
      let sql = statement_of insert_text (understood level_schema insert_text) in
      elim (commits_as insert_text params s level_schema was.schema command insert_is insert_plain db h) [
        | inl ends ↦ elim ends.0 [ inl commit ↦ absurd cc | inr release ↦ absurd (let e = release.2 in cc) ]
        | inr w ↦
            let does = subst (DoesOn s.now.trees s.step_limit params sql command w.1 w.2) was.schema w.3 in
            rw w.5 (inserted s.step_limit s.now.trees sql id text title leaves w.1 w.2 was.rows is does).1
      ]

  module _ (sql : List ℕ) (project : List Term) (more : Row) (out : Row → Row) (id : ℕ)
      (is : command_of (understood level_schema sql) ≡ update_with project) (plain : IsPlain (understood level_schema sql))
      (puts : (r : Row) → output (pick_query project) ((Int (pos id) ∷ more) ∷ r ∷ []) ≡ ([], out (seen r))) where
    pub update_commits : (index : ℕ) (it after : Leaf) → id ≡ 1 + index → slice_get leaves index ≡ Some it → out (shown id it) ≡ rewritten id after
        → CommitsBy sql (Int (pos id) ∷ more) s db → HasLeaves db (slice_set leaves index after)
    update_commits index it after at found becomes h =
        let params = Int (pos id) ∷ more in
        let text = statement_of sql (understood level_schema sql) in
        elim (commits_as sql params s level_schema was.schema (update_with project) is plain db h) [
          | inl ends ↦ elim ends.0 [ inl commit ↦ absurd cc | inr release ↦ absurd (let e = release.2 in cc) ]
          | inr w ↦
              let does = subst (DoesOn s.now.trees s.step_limit params text (update_with project) w.1 w.2) was.schema w.3 in
              rw w.5 (updated project more out id puts s.step_limit s.now.trees text after it index leaves w.1 w.2 was.rows at found becomes does).1
        ]

-- ---- the table is made

-- of nothing, and it has no rows
module _ (limit : Option ℕ) (trees : Trees) (tally : Tally) (after : Database) (does : DoesOn trees limit [] create_text CreateTable tally after no_schema) where
  created_empty : (after.schema ≡ level_schema) × HasLeaves after.trees []
  created_empty =
      let all = went does in
      let first = went all.1 in
      let made = first.1 in
      let both : Ok made.table ≡ Ok level = sym made.defined ∙ create_defines in
      let same : made.table ≡ level = cc in
      let schema : first.0.schema ≡ level_schema = made.is ∙ ap (created no_schema) same ∙ created_is in
      let plain : lacks_sequence first.0.schema ≡ false = ap lacks_sequence schema in
      let now : after ≡ first.0 = ap (λ (p : Tally × Database). p.1) (same_value all.2) ∙ same_value (rw plain at first.2) in
      let empty : first.0.trees 0 ≡ [] = made.empty in
      (ap (λ (d : Database). d.schema) now ∙ schema, subst (λ (d : Database). HasLeaves d.trees []) (sym now) (rw empty (IsPermutation-refl [])))

module _ (old new : State) (count : ℕ) (h : Executes create_text [] old new (Ok count)) where
  create_runs : old.now.schema ≡ no_schema → Writes old new None CreateTable create_text [] count
  create_runs has =
      subst (λ t. Writes old new None CreateTable t [] count) create_statement
      (runs_as create_text [] old new no_schema has CreateTable create_is create_plain count h)

  pub create_holds : (IsTrue old.is_open → (old.now.schema ≡ no_schema) × (old.in_transaction ≡ false)) → Holds new []
  create_holds was up =
      let (has, auto) = was (ran_up old new create_text [] count h up) in
      let w = create_runs has in
      let made = created_empty old.step_limit old.now.trees w.tally new.now
      (subst (DoesOn old.now.trees old.step_limit [] create_text CreateTable w.tally new.now) has w.changed) in
      record { schema = made.0; rows = made.1; settled = rw auto at w.shown.committed_is; autocommit = w.shown.mode ∙ auto }

  pub create_open : (IsTrue old.is_open → (old.now.schema ≡ no_schema) × (old.in_transaction ≡ false)) → StaysOpen old new
  create_open was up = (create_runs (was up).0).shown.is_open

  -- and not where it is there
  create_again : (IsTrue old.is_open → old.now.schema ≡ level_schema) → IsTrue old.is_open → ⊥
  unfolding ExecutesIn
  create_again was up = absurd (let e = sym (ap is_ok h.1.is) ∙ ap (λ s. is_ok (understood s create_text)) (was up) ∙ create_again_fails in cc)

  pub create_refuses : (IsTrue old.is_open → old.now.schema ≡ level_schema) → (IsTrue old.is_open → ⊥) × (IsTrue new.is_open → ⊥)
  create_refuses was = (create_again was, λ up. create_again was (ran_up old new create_text [] count h up))

-- what a stop in its middle may leave
module _ (s : State) (db : Trees) (h : CommitsBy create_text [] s db) where
  create_commits_none : s.now.schema ≡ no_schema → HasLeaves db []
  create_commits_none has =
      let may = subst (λ t. MayCommit s None CreateTable t [] db) create_statement
      (commits_as create_text [] s no_schema has CreateTable create_is create_plain db h) in
      elim may [
        | inl ends ↦ elim ends.0 [ inl commit ↦ absurd cc | inr release ↦ absurd (let e = release.2 in cc) ]
        | inr w ↦
            let does = subst (DoesOn s.now.trees s.step_limit [] create_text CreateTable w.1 w.2) has w.3 in
            rw w.5 (created_empty s.step_limit s.now.trees w.1 w.2 does).1
      ]

  create_commits_again : s.now.schema ≡ level_schema → ⊥
  unfolding CommitsBy
  create_commits_again has = absurd (let e = sym (ap is_ok h.1.is) ∙ ap (λ t. is_ok (understood t create_text)) has ∙ create_again_fails in cc)

  pub create_commits : LeavesEmpty s db
  create_commits = (create_commits_none, create_commits_again)

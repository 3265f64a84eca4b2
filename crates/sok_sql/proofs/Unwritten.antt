-- Why a write of a row of the table is refused: the store gave a cause, or the row is too big.
use Rattle.std.proofs.Common.{◌≡◌, ◌⊎◌, inl, inr, refl, sym, ap, subst, subst₂, ◌∙◌, append-nil}
use Rattle.std.proofs.Common.{ℕ, ℤ, ◌+◌, ◌<◌, ◌^◌, pos, List, [], ◌∷◌, ◌++◌, length}
use Rattle.std.proofs.Common.{true, false, not, ◌&&◌, ◌||◌, Option, Some, None, Err, IsSome, slice_get, slice_set}
use Rattle.std.proofs.lemmas.Bool.{cases_Bool}
use Rattle.sqlite_schema.specs.declared.command.Returning.{Returning}
use Rattle.sqlite_schema.specs.declared.schema.Among.TheVariants.{All}
use Rattle.sqlite_schema.specs.declared.schema.Keys.TheVariants.{Enforced}
use Rattle.sqlite_schema.specs.Rules.{Refers}
use Rattle.sqlite_trees.proofs.ListLemmas.{all_of}
use Rattle.sqlite_rules.specs.Calls.{ids_of}
use Rattle.sqlite_rules.specs.Action.{Writes}
use Rattle.sqlite_rules.specs.declared.error.Refusal.{Refusal}
use Rattle.sqlite_typing.specs.Types.{accepts_terms, accepts_program}
use Rattle.sqlite.specs.declared.error.Error.{Error}
use Rattle.sqlite.specs.declared.types.Value.TheVariants.{Null, Int}
use Rattle.sqlite.specs.Order.{Row}
use Rattle.sqlite.specs.Schema.{Schema}
use Rattle.sqlite.specs.Tree.{Trees, put_row, without_rowid}
use Rattle.sqlite.specs.Term.{Term}
use Rattle.sqlite.specs.Source.TheVariants.{Values}
use Rattle.sqlite.specs.Query.{output}
use Rattle.sqlite.specs.Command.{Command}
use Rattle.sqlite.specs.Command.TheVariants.{Insert, Update}
use Rattle.sqlite.specs.Edit.{Edit, IsOversized, IsRefused, edit_of}
use Rattle.sqlite.specs.Rowids.TheVariants.{Chosen, Given}
use Rattle.sqlite.specs.Effect.{Database, is_query}
use Rattle.sqlite.specs.Program.{overlay}
use Rattle.sqlite.specs.Does.{Concludes, Does}
use Rattle.sqlite.specs.Rows.{Inserts, Queried, Sourced, Task, Updates, Written}
use Rattle.sqlite.specs.Listing.{understood}
use Rattle.sqlite.specs.Clock.{timed}
use Rattle.sqlite.specs.State.{State, Executes, ExecutesIn, Fails, IsMisplaced, IsNotRun, RunsCommand, is_pragma, mode_of, shows_rows, text_of}
use Rattle.sqlite.proofs.Callers.{IsPlain, command_of, statement_of}
use Rattle.sok_sql.specs.Leaves.{Leaf, HasLeaves, level, level_schema, shown, seen, stored, new_leaf}
use Rattle.sok_sql.specs.Causes.{AreApart, IsExcused, IsTooBig}
use Rattle.sok_sql.specs.Connections.{Holds}
use Rattle.sok_sql.proofs.Texts.{IsPosed, insert_text, insert_is, insert_plain, insert_posed, insert_terms, pick_query, update_with}
use Rattle.sok_sql.proofs.Writes.{mode, new_params, rewritten}
use Rattle.sok_sql.proofs.Refused.{calm, failed, is_statement}
use Rattle.sok_sql.proofs.Standing.{keeps_once, left_free, never_refused, next_free, one_stop, putting}
use Rattle.sok_sql.proofs.Rows.{cast_int, cast_null, cast_count, cast_words, cast_bytes, put_last, put_in_place}
use Rattle.sok_sql.proofs.Choosing.{picks}

-- ---- the statement is run, and its command ends so

module _ (old new : State) (schema : Schema) (sql : List ℕ) (params : Row) (has : old.now.schema ≡ schema) (plain : IsPlain (understood schema sql))
    (posed : IsPosed sql (length params) (understood schema sql)) where
  -- how a command that is not done ends
  abbrev Stops : Option Returning → Command → List ℕ → Row → Error → Type 0
  Stops returning command text all e =
      (IsMisplaced old command e ⊎ Does old.step_limit (mode_of old) all old.now text returning command (Err (Some e)))
      ⊎ Fails old new (Does old.step_limit (mode_of old) all old.now text returning command (Err None)) e

  pub write_refused : (command : Command) → command_of (understood schema sql) ≡ command → (is_query command || (is_pragma command || false)) ≡ false
      → ((e : Error) → IsMisplaced old command e → ⊥) → (e : Error) → Executes sql params old new (Err e)
      → ((stop : Option Error) × Does old.step_limit (mode_of old) params old.now (statement_of sql (understood schema sql)) None command (Err stop))
      ⊎ IsExcused old new e
  unfolding ExecutesIn IsNotRun
  write_refused command is acts placed e (inl (inl h)) = absurd (is_statement old new schema sql params has plain posed e h.0)
  write_refused command is acts placed e (inl (inr h)) = elim (failed old new ⊥ e h) [ inl big ↦ absurd big | inr why ↦ inr why ]
  write_refused command is acts placed e (inr h) =
      let known = sym h.1.is ∙ ap (λ s. understood s sql) has in
      let bare = subst IsPlain (sym known) plain in
      let same : h.0.command ≡ command = ap command_of known ∙ is in
      let ran : RunsCommand old new sql h.0 (timed params h.0.formats h.1.now) (Err e) = elim (cases_Bool (shows_rows false h.0)) [
        | inl shows ↦ absurd (let e = rw (same, bare.0) at shows in cc)
        | inr runs ↦ rw runs at h.2
      ] in
      let stops : Stops h.0.returning h.0.command (text_of sql h.0) (timed params h.0.formats h.1.now) e = elim ran [
        | inl same ↦ elim same.0 [ inl misplaced ↦ inl (inl misplaced) | inr refused ↦ inl (inr refused.1) ]
        | inr fails ↦ inr fails
      ] in
      let here = subst₂ (λ k t. Stops None k t params e) same (ap (statement_of sql) known) (rw (bare.0, bare.1, append-nil params) at stops) in
      elim here [
        | inl refused ↦ elim refused [ inl misplaced ↦ absurd (placed e misplaced) | inr does ↦ inl (Some e, does) ]
        | inr fails ↦ elim (failed old new _ e fails) [ inl big ↦ inl (None, big) | inr why ↦ inr why ]
      ]

-- ---- a row that is written

references_hold : (db : Trees) → Refers All level_schema db
references_hold db = (all_of _ (λ row. refl) (db 0), tt)

-- an edit that no rule refuses ends at its row, which is too big
at_row : (db : Trees) (gone : List ℤ) (id : ℕ) (leaf : Leaf) → ((why : Refusal) → IsRefused level_schema Enforced db (putting gone id leaf) why → ⊥)
    → (edit : Edit) → edit ≡ putting gone id leaf → (end : Option Refusal) → Writes level_schema Enforced db edit (Err end) → IsTooBig id leaf
at_row db gone id leaf allowed edit is end writes =
    elim (one_stop level_schema Enforced db (putting gone id leaf) end refl (subst (λ e. Writes level_schema Enforced db e (Err end)) is writes)) [
      | inl refused ↦ absurd (allowed refused.0 refused.1)
      | inr big ↦ elim big.1 [ inl same ↦ subst (IsOversized level_schema level) same big.2 | inr none ↦ absurd none ]
    ]

-- what comes after the rows are written does not fail
concluded : (limit : Option ℕ) (params : Row) (w : Written) (stop : Option Error)
    → Concludes (record { limit = limit; keys = Enforced; schema = level_schema; table = level; params = params }) mode None w (Err stop) → ⊥
concluded limit params w stop (inl (why, tested, is)) = tested.0 (references_hold w.trees)
concluded limit params w stop (inr (doubt, tested, inl (why, shown, is))) = absurd cc
concluded limit params w stop (inr (doubt, tested, inr (rows, shown, is))) = absurd cc

typed_values : (id : ℕ) (text : List ℕ) (title : Option (List ℕ)) → accepts_terms insert_terms (new_params id text title) ≡ true
typed_values id text None = refl
typed_values id text (Some title) = refl

source_stops : (limit : Option ℕ) (db : Database) (params : Row) (terms : List Term) (width : ℕ) → accepts_terms terms params ≡ true → (stop : Option Error)
    → Sourced limit db params (Values terms width) (Err stop) → IsSome limit
source_stops limit db params terms width typed None h = absurd h
source_stops limit db params terms width typed (Some e) (inl mismatch) = absurd (let e = mismatch.1 in cc)
source_stops limit db params terms width typed (Some e) (inr stopped) = stopped.1

query_stops : (limit : Option ℕ) (db : Database) (params : Row) (project : List Term)
    → accepts_program db.schema [] (pick_query project) params ≡ true → (stop : Option Error)
    → Queried limit db (record { lets = []; body = pick_query project }) params (Err stop) → IsSome limit
query_stops limit db params project typed None h = absurd h
query_stops limit db params project typed (Some e) (inl mismatch) = absurd (let e = mismatch.1 in cc)
query_stops limit db params project typed (Some e) (inr (inl sum)) = absurd (calm (pick_query project) (overlay db.trees []) params refl refl sum.1)
query_stops limit db params project typed (Some e) (inr (inr stopped)) = stopped.1

abbrev task : Option ℕ → Row → Task
task limit params = record { limit = limit; keys = Enforced; schema = level_schema; table = level; params = params }

-- of rows that stand apart an insert ends by the limit of steps, or since its row is too big
module _ (limit : Option ℕ) (db : Trees) (id : ℕ) (text : List ℕ) (title : Option (List ℕ)) (leaves : List Leaf) (low : id < 2 ^ 32) (has : HasLeaves db leaves)
    (is : id ≡ 1 + length leaves) (apart : AreApart (leaves ++ new_leaf text title ∷ [])) where
  insert_allowed : (why : Refusal) → IsRefused level_schema Enforced db (putting [] id (new_leaf text title)) why → ⊥
  insert_allowed =
      let leaf = new_leaf text title in
      let free = next_free (db 0) leaves id leaf is has in
      never_refused db [] id leaf low (ap (λ b. not b && true) free)
      (keeps_once db (put_row (stored id leaf) (db 0)) (leaves ++ leaf ∷ []) apart (put_last leaf id leaves (db 0) is free has))

  insert_stops : (stop : Option Error) → Inserts (task limit (new_params id text title)) (Values insert_terms 8) db (Err stop)
      → IsTooBig id (new_leaf text title) ⊎ IsSome limit
  insert_stops stop (inl (why, sourced, ends)) =
      inr (source_stops limit (record { schema = level_schema; trees = db }) (new_params id text title) insert_terms 8 (typed_values id text title) why sourced)
  insert_stops stop (inr (rows, given, inl (why, counted, ends))) = absurd cc
  insert_stops stop (inr (rows, given, inr (counter, counted, inl (why, (refusal, writes, named), ends)))) =
      let edit : edit_of db level [] Chosen 0 rows ≡ putting [] id (new_leaf text title) =
      ap (λ all. edit_of db level [] Chosen 0 all) given.1 ∙ rw (cast_int (pos id), cast_bytes title, cast_null, cast_int (pos 0)) in
      inl (at_row db [] id (new_leaf text title) insert_allowed _ edit refusal writes)
  insert_stops stop (inr (rows, given, inr (counter, counted, inr (mid, edited, inl (why, counts, ends))))) = absurd cc
  insert_stops stop (inr (rows, given, inr (counter, counted, inr (mid, edited, inr (next, counts, ends))))) = absurd cc

  insert_ends : (sql : List ℕ) (stop : Option Error)
      → Does limit mode (new_params id text title) (record { schema = level_schema; trees = db }) sql None (Insert 0 (Values insert_terms 8)) (Err stop)
      → IsTooBig id (new_leaf text title) ⊎ IsSome limit
  insert_ends sql stop (inl (why, stops, ends)) = insert_stops why stops
  insert_ends sql stop (inr (w, wrote, ends)) = absurd (concluded limit (new_params id text title) w stop ends)

-- and so does an update of one row
module _ (project : List Term) (more : Row) (out : Row → Row) (id : ℕ)
    (puts : (r : Row) → output (pick_query project) ((Int (pos id) ∷ more) ∷ r ∷ []) ≡ ([], out (seen r)))
    (typed : accepts_program level_schema [] (pick_query project) (Int (pos id) ∷ more) ≡ true)
    (limit : Option ℕ) (db : Trees) (new it : Leaf) (index : ℕ) (leaves : List Leaf) (low : id < 2 ^ 32) (has : HasLeaves db leaves) (is : id ≡ 1 + index)
    (found : slice_get leaves index ≡ Some it) (becomes : out (shown id it) ≡ rewritten id new) (apart : AreApart (slice_set leaves index new)) where
  update_allowed : (why : Refusal) → IsRefused level_schema Enforced db (putting (pos id ∷ []) id new) why → ⊥
  update_allowed =
      let free = left_free (db 0) id new in
      never_refused db (pos id ∷ []) id new low (ap (λ b. not b && true) free)
      (keeps_once db (put_row (stored id new) (without_rowid (pos id) (db 0))) (slice_set leaves index new) apart
      (put_in_place new it index id leaves (db 0) is found free has))

  update_stops : (stop : Option Error)
      → Updates (task limit (Int (pos id) ∷ more)) (record { lets = []; body = pick_query project }) (Int (pos id) ∷ more) db (Err stop)
      → IsTooBig id new ⊎ IsSome limit
  update_stops stop (inl (why, queried, ends)) =
      inr (query_stops limit (record { schema = level_schema; trees = db }) (Int (pos id) ∷ more) project typed why queried)
  update_stops stop (inr (rows, answers, inl (why, (refusal, writes, named), ends))) =
      let one = picks id more project out puts db it index leaves rows has is found (answers.answer Null) in
      let picked : rows ≡ rewritten id new ∷ [] = one ∙ ap (λ row. row ∷ []) becomes in
      let edit : edit_of db level (ids_of rows) Given 1 rows ≡ putting (pos id ∷ []) id new =
      ap (λ all. edit_of db level (ids_of all) Given 1 all) picked
      ∙ rw (cast_int (pos id), cast_null, cast_bytes new.title, cast_words new.lurd, cast_count new.pushes, cast_count new.moves, cast_int (pos new.verdict)) in
      inl (at_row db (pos id ∷ []) id new update_allowed _ edit refusal writes)
  update_stops stop (inr (rows, answers, inr (next, edited, ends))) = absurd cc

  update_ends : (sql : List ℕ) (stop : Option Error)
      → Does limit mode (Int (pos id) ∷ more) (record { schema = level_schema; trees = db }) sql None (update_with project) (Err stop)
      → IsTooBig id new ⊎ IsSome limit
  update_ends sql stop (inl (why, stops, ends)) = update_stops why stops
  update_ends sql stop (inr (w, wrote, ends)) = absurd (concluded limit (Int (pos id) ∷ more) w stop ends)

-- ---- the three writes

insert_placed : (s : State) (at : ℕ) (from : _) (e : Error) → IsMisplaced s (Insert at from) e → ⊥
insert_placed s at from e (inl (named, inl begins)) = absurd (let is = begins.0 in cc)
insert_placed s at from e (inl (named, inr (inl commits, outside))) = absurd cc
insert_placed s at from e (inl (named, inr (inr undoes, outside))) = absurd cc
insert_placed s at from e (inr (named, name, inl releases, unnamed)) = absurd cc
insert_placed s at from e (inr (named, name, inr returns, unnamed)) = absurd cc

update_placed : (s : State) (at : ℕ) (q : _) (e : Error) → IsMisplaced s (Update at q) e → ⊥
update_placed s at q e (inl (named, inl begins)) = absurd (let is = begins.0 in cc)
update_placed s at q e (inl (named, inr (inl commits, outside))) = absurd cc
update_placed s at q e (inl (named, inr (inr undoes, outside))) = absurd cc
update_placed s at q e (inr (named, name, inl releases, unnamed)) = absurd cc
update_placed s at q e (inr (named, name, inr returns, unnamed)) = absurd cc

-- a limit of steps is a cause too
limited : (old new : State) (e : Error) (Big : Type 0) → Big ⊎ IsSome old.step_limit → Big ⊎ IsExcused old new e
limited old new e Big (inl big) = inl big
limited old new e Big (inr some) = inr (inr (inr (inl some)))

module _ (old new : State) (e : Error) (leaves : List Leaf) (holds : Holds old leaves) (id : ℕ) (low : id < 2 ^ 32) where
  pub insert_refused : (text : List ℕ) (title : Option (List ℕ)) → id ≡ 1 + length leaves → AreApart (leaves ++ new_leaf text title ∷ [])
      → Executes insert_text (new_params id text title) old new (Err e) → IsTooBig id (new_leaf text title) ⊎ IsExcused old new e
  insert_refused text title is apart h = elim (cases_Bool old.is_open) [
    | inl up ↦
        let was = holds up in
        let params = new_params id text title in
        let command = Insert 0 (Values insert_terms 8) in
        let sql = statement_of insert_text (understood level_schema insert_text) in
        elim (write_refused old new level_schema insert_text params was.schema insert_plain insert_posed command insert_is refl (insert_placed old 0 _) e h) [
          | inl stops ↦
              limited old new e _ (insert_ends old.step_limit old.now.trees id text title leaves low was.rows is apart sql stops.0
              (subst (λ s. Does old.step_limit mode params (record { schema = s; trees = old.now.trees }) sql None command (Err stops.0)) was.schema stops.1))
          | inr why ↦ inr why
        ]
    | inr shut ↦ inr (inr (inl shut))
  ]

  module _ (index : ℕ) (it : Leaf) (at : id ≡ 1 + index) (found : slice_get leaves index ≡ Some it) where
    module _ (sql : List ℕ) (project : List Term) (more : Row) (out : Row → Row)
        (is : command_of (understood level_schema sql) ≡ update_with project) (plain : IsPlain (understood level_schema sql))
        (posed : IsPosed sql (length (Int (pos id) ∷ more)) (understood level_schema sql))
        (puts : (r : Row) → output (pick_query project) ((Int (pos id) ∷ more) ∷ r ∷ []) ≡ ([], out (seen r)))
        (typed : accepts_program level_schema [] (pick_query project) (Int (pos id) ∷ more) ≡ true) where
      pub update_refused : (after : Leaf) → out (shown id it) ≡ rewritten id after → AreApart (slice_set leaves index after)
          → Executes sql (Int (pos id) ∷ more) old new (Err e) → IsTooBig id after ⊎ IsExcused old new e
      update_refused after becomes apart h = elim (cases_Bool old.is_open) [
        | inl up ↦
            let was = holds up in
            let params = Int (pos id) ∷ more in
            let command = update_with project in
            let text = statement_of sql (understood level_schema sql) in
            elim (write_refused old new level_schema sql params was.schema plain posed command is refl (update_placed old 0 _) e h) [
              | inl stops ↦
                  limited old new e _ (update_ends project more out id puts typed old.step_limit old.now.trees after it index leaves low was.rows at found
                  becomes apart text stops.0
                  (subst (λ s. Does old.step_limit mode params (record { schema = s; trees = old.now.trees }) text None command (Err stops.0)) was.schema
                  stops.1))
              | inr why ↦ inr why
            ]
        | inr shut ↦ inr (inr (inl shut))
      ]

-- What the writes make of the rows.
use Rattle.std.proofs.Common.{◌≡◌, ◌⊎◌, inl, inr, ℕ, ◌+◌, pos, List, [], ◌∷◌, ◌++◌, length, Some, None, Option, Ok, Err, Result, true, false}
use Rattle.std.proofs.Common.{slice_get, slice_set, refl, ap, subst, ◌∙◌}
use Rattle.sqlite.specs.declared.types.Value.TheVariants.{Null, Int, Text as Words, Blob as Bytes}
use Rattle.sqlite.specs.Values.{or_null}
use Rattle.sqlite.specs.Order.{Row}
use Rattle.sqlite.specs.Term.{Term}
use Rattle.sqlite.specs.Source.TheVariants.{Values}
use Rattle.sqlite.specs.Command.{Command}
use Rattle.sqlite.specs.Command.TheVariants.{Insert}
use Rattle.sqlite.specs.Schema.{Schema}
use Rattle.sqlite.specs.Query.{output}
use Rattle.sqlite.specs.Edit.{edit_of, edited, left_by, are_fresh}
use Rattle.sqlite.specs.Rowids.TheVariants.{Chosen, Given}
use Rattle.sqlite.specs.Tree.{Trees, put_row, without_rowid}
use Rattle.sqlite.specs.Does.{Tally, Does}
use Rattle.sqlite.specs.Rows.{Written}
use Rattle.sqlite_rules.specs.Calls.{ids_of}
use Rattle.sqlite.specs.Effect.{Database}
use Rattle.sqlite.specs.declared.run.Mode.{Mode}
use Rattle.sqlite_schema.specs.declared.schema.Keys.TheVariants.{Enforced}
use Rattle.sqlite.proofs.Callers.{one_step}
use Rattle.sok_sql.specs.Leaves.{Leaf, level, level_schema, stored, seen, shown, HasLeaves, new_leaf}
use Rattle.sok_sql.proofs.Texts.{insert_terms, pick_query, update_with}
use Rattle.sok_sql.proofs.Rows.{cast_int, cast_null, cast_count, cast_words, cast_bytes, not_taken, put_last, put_in_place}
use Rattle.sok_sql.proofs.Choosing.{picks}

-- a part that gave a value did not stop on the way
pub went : {B E R : Type 0} {b : B} {Stops : E → Type 0} → ((stop : E) × Stops stop × (Ok b ≡ Err stop)) ⊎ R → R
went (inl stopped) = absurd (let e = stopped.2 in cc)
went (inr on) = on

pub same_value : {B E : Type 0} {a b : B} → ◌≡◌ {A = Result B E} (Ok a) (Ok b) → a ≡ b
same_value e = cc

abbrev pub mode : Mode
mode = record { keys = Enforced; in_doubt = false; may_wait = false }

-- a command leads from the rows of the table to a database
abbrev pub DoesOn : Trees → Option ℕ → Row → List ℕ → Command → Tally → Database → Schema → Type 0
DoesOn db limit params sql command tally after schema =
    Does limit mode params (record { schema = schema; trees = db }) sql None command (Ok (tally, after))

-- the values of the parameters of an insert
abbrev pub new_params : ℕ → List ℕ → Option (List ℕ) → Row
new_params id text title = Int (pos id) ∷ Words text ∷ or_null Bytes title ∷ []

pub inserted : (limit : Option ℕ) (db : Trees) (sql : List ℕ) (id : ℕ) (text : List ℕ) (title : Option (List ℕ)) (leaves : List Leaf) (tally : Tally)
    (after : Database) → HasLeaves db leaves → id ≡ 1 + length leaves
    → DoesOn db limit (new_params id text title) sql (Insert 0 (Values insert_terms 8)) tally after level_schema
    → (after.schema ≡ level_schema) × HasLeaves after.trees (leaves ++ new_leaf text title ∷ [])
inserted limit db sql id text title leaves tally after has is does =
    let new = stored id (new_leaf text title) in
    let E = λ (all : List Row). edit_of db level [] Chosen 0 all in
    let done = went does in
    let now : after ≡ record { schema = level_schema; trees = done.0.trees } = ap (λ (p : Tally × Database). p.1) (same_value (went (went done.2).2).2) in
    let given = went done.1 in
    let written = went (went given.2).2 in
    let counted = went written.2 in
    let trees : done.0.trees ≡ written.0 = ap (λ (it : Written). it.trees) (same_value counted.2) ∙ same_value counted.1 in
    let step = one_step level_schema _ db written.0 (E given.0) refl written.1 in
    let edit : edited db (E given.0) ≡ put_row new (db 0) =
    ap (λ all. edited db (E all)) given.1.1 ∙ rw (cast_int (pos id), cast_bytes title, cast_null, cast_int (pos 0)) in
    let rows : after.trees 0 ≡ put_row new (db 0) = ap (λ (d : Database). d.trees 0) now ∙ ap (λ (t : Trees). t 0) trees ∙ step.rows ∙ edit in
    let fresh = rw (cast_int (pos id)) at (subst (λ all. are_fresh (left_by db (E all)) (E all).news ≡ true) given.1.1 step.fresh) in
    (ap (λ (d : Database). d.schema) now, rw rows (put_last (new_leaf text title) id leaves (db 0) is (not_taken _ fresh) has))

-- the row that an update writes: its id before and after, and its columns
abbrev pub rewritten : ℕ → Leaf → Row
rewritten id leaf = Int (pos id) ∷ stored id leaf

module _ (project : List Term) (more : Row) (out : Row → Row) (id : ℕ)
    (puts : (r : Row) → output (pick_query project) ((Int (pos id) ∷ more) ∷ r ∷ []) ≡ ([], out (seen r))) where
  pub updated : (limit : Option ℕ) (db : Trees) (sql : List ℕ) (new it : Leaf) (index : ℕ) (leaves : List Leaf) (tally : Tally) (after : Database)
      → HasLeaves db leaves → id ≡ 1 + index → slice_get leaves index ≡ Some it → out (shown id it) ≡ rewritten id new
      → DoesOn db limit (Int (pos id) ∷ more) sql (update_with project) tally after level_schema
      → (after.schema ≡ level_schema) × HasLeaves after.trees (slice_set leaves index new)
  updated limit db sql new it index leaves tally after has is found becomes does =
      let E = λ (all : List Row). edit_of db level (ids_of all) Given 1 all in
      let done = went does in
      let now : after ≡ record { schema = level_schema; trees = done.0.trees } = ap (λ (p : Tally × Database). p.1) (same_value (went (went done.2).2).2) in
      let queried = went done.1 in
      let written = went queried.2 in
      let trees : done.0.trees ≡ written.0 = ap (λ (it : Written). it.trees) (same_value written.2) in
      let one = picks id more project out puts db it index leaves queried.0 has is found (queried.1.answer Null) in
      let picked : queried.0 ≡ rewritten id new ∷ [] = one ∙ ap (λ row. row ∷ []) becomes in
      let step = one_step level_schema _ db written.0 (E queried.0) refl written.1 in
      let edit : edited db (E queried.0) ≡ put_row (stored id new) (without_rowid (pos id) (db 0)) =
      ap (λ all. edited db (E all)) picked
      ∙ rw (cast_int (pos id), cast_null, cast_bytes new.title, cast_words new.lurd, cast_count new.pushes, cast_count new.moves, cast_int (pos new.verdict)) in
      let rows : after.trees 0 ≡ put_row (stored id new) (without_rowid (pos id) (db 0)) =
      ap (λ (d : Database). d.trees 0) now ∙ ap (λ (t : Trees). t 0) trees ∙ step.rows ∙ edit in
      let fresh = rw (cast_int (pos id)) at (subst (λ all. are_fresh (left_by db (E all)) (E all).news ≡ true) picked step.fresh) in
      (ap (λ (d : Database). d.schema) now, rw rows (put_in_place new it index id leaves (db 0) is found (not_taken _ fresh) has))

-- The statements that write a row, to whichever of their ends they come.
use Rattle.std.proofs.Common.{◌≡◌, refl, ℕ, ◌+◌, ◌<◌, ◌^◌, pos, List, [], ◌∷◌, ◌++◌, length, true, Option, Ok, Err}
use Rattle.sqlite_typing.specs.Types.{accepts_program}
use Rattle.sqlite.specs.declared.error.Error.{Error}
use Rattle.sqlite.specs.declared.types.Value.TheVariants.{Null, Int, Text as Words}
use Rattle.sqlite.specs.Order.{Row, column}
use Rattle.sqlite.specs.Term.{Term}
use Rattle.sqlite.specs.Query.{output}
use Rattle.sqlite.specs.Listing.{understood}
use Rattle.sqlite.specs.State.{State, CommitsBy, Executes, HasCleanDisk, Survives}
use Rattle.sqlite.proofs.Callers.{IsPlain, command_of}
use Rattle.sqlite.proofs.StateLemmas.{survives_weaker}
use Rattle.sok_sql.specs.Connections.{Shows}
use Rattle.sok_sql.specs.Leaves.{Leaf, HasLeaves, level_schema, new_leaf, seen, shown, leaf_with_best, leaf_with_verdict}
use Rattle.sok_sql.specs.Statements.{Inserts, Updates, UpdatesLeaf}
use Rattle.sok_sql.proofs.Texts.{IsPosed, insert_text, pick_query, update_with}
use Rattle.sok_sql.proofs.Texts.{best_text, best_is, best_plain, best_posed, best_terms, verdict_text, verdict_is, verdict_plain, verdict_posed, verdict_terms}
use Rattle.sok_sql.proofs.Calls.{refused_undone, undone_holds}
use Rattle.sok_sql.proofs.Changing.{insert_commits, insert_holds, insert_open, update_commits, update_holds, update_open}
use Rattle.sok_sql.proofs.Unwritten.{insert_refused, update_refused}
use Rattle.sok_sql.proofs.Writes.{new_params, rewritten}

-- ---- an insert

module _ (id : ℕ) (text : List ℕ) (title : Option (List ℕ)) (low : id < 2 ^ 32) (old new : State)
    (stop : Survives old new (CommitsBy insert_text (new_params id text title) old)) where
  insert_stop : Survives old new (λ db. (leaves : List Leaf) → Shows old leaves → id ≡ 1 + length leaves → HasLeaves db (leaves ++ new_leaf text title ∷ []))
  insert_stop = survives_weaker old new _ _ (λ _ db h leaves was is. insert_commits old leaves was db id text title is h) stop

  pub row_inserted : {X : Type 0} (x : X) (count : ℕ) → (HasCleanDisk new → Executes insert_text (new_params id text title) old new (Ok count))
      → Inserts {X = X} old new id (new_leaf text title) (Ok x)
  row_inserted x count runs = record {
    done = λ clean leaves holds is.
        (insert_holds old new leaves holds id text title count is (runs clean), insert_open old new leaves holds id text title count (runs clean));
    kept = λ _ _ _. tt;
    stop = insert_stop;
    cause = λ _ _ _ _ _. tt;
  }

  pub row_not_inserted : {X : Type 0} (e : Error) → (HasCleanDisk new → Executes insert_text (new_params id text title) old new (Err e))
      → Inserts {X = X} old new id (new_leaf text title) (Err e)
  row_not_inserted e runs = record {
    done = λ _ _ _ _. tt;
    kept = λ clean leaves holds. undone_holds old new leaves holds (refused_undone old new insert_text (new_params id text title) e (runs clean));
    stop = insert_stop;
    cause = λ clean leaves holds is apart. insert_refused old new e leaves holds id low text title is apart (runs clean);
  }

-- ---- an update

-- the text means an update that makes this of the leaf with an id
pub record IsUpdate (id : ℕ) (change : Leaf → Leaf) (sql : List ℕ) (more : Row) : Type 0 where
  pub project : List Term
  pub out : Row → Row
  pub is : command_of (understood level_schema sql) ≡ update_with project
  pub plain : IsPlain (understood level_schema sql)
  pub posed : IsPosed sql (length (Int (pos id) ∷ more)) (understood level_schema sql)
  pub puts : (r : Row) → output (pick_query project) ((Int (pos id) ∷ more) ∷ r ∷ []) ≡ ([], out (seen r))
  pub typed : accepts_program level_schema [] (pick_query project) (Int (pos id) ∷ more) ≡ true
  pub becomes : (leaf : Leaf) → out (shown id leaf) ≡ rewritten id (change leaf)

module _ {id : ℕ} {change : Leaf → Leaf} {sql : List ℕ} {more : Row} (u : IsUpdate id change sql more) (low : id < 2 ^ 32) (old new : State)
    (stop : Survives old new (CommitsBy sql (Int (pos id) ∷ more) old)) where
  update_stop : Survives old new (λ db. UpdatesLeaf (Shows old) (HasLeaves db) id change)
  update_stop = survives_weaker old new _ _ (λ _ db h leaves index leaf was at found.
      update_commits old leaves was db sql u.project more u.out id u.is u.plain u.puts index leaf (change leaf) at found (u.becomes leaf) h) stop

  pub row_updated : {X : Type 0} (x : X) (count : ℕ) → (HasCleanDisk new → Executes sql (Int (pos id) ∷ more) old new (Ok count))
      → Updates {X = X} old new id change (Ok x)
  row_updated x count runs = record {
    done = λ clean leaves index leaf holds at found. (
      update_holds old new leaves holds sql u.project more u.out id u.is u.plain u.puts index leaf (change leaf) count at found (u.becomes leaf)
          (runs clean),
      update_open old new leaves holds sql u.project (Int (pos id) ∷ more) u.is u.plain count (runs clean),
    );
    kept = λ _ _ _. tt;
    stop = update_stop;
    cause = λ _ _ _ _ _ _ _ _. tt;
  }

  pub row_not_updated : {X : Type 0} (e : Error) → (HasCleanDisk new → Executes sql (Int (pos id) ∷ more) old new (Err e))
      → Updates {X = X} old new id change (Err e)
  row_not_updated e runs = record {
    done = λ _ _ _ _ _ _ _. tt;
    kept = λ clean leaves holds. undone_holds old new leaves holds (refused_undone old new sql (Int (pos id) ∷ more) e (runs clean));
    stop = update_stop;
    cause = λ clean leaves index leaf holds at found apart.
        update_refused old new e leaves holds id low index leaf at found sql u.project more u.out u.is u.plain u.posed u.puts u.typed (change leaf)
        (u.becomes leaf) apart (runs clean);
  }

-- ---- the two updates

pub best_update : (id : ℕ) (lurd : List ℕ) (pushes moves : ℕ)
    → IsUpdate id (leaf_with_best lurd pushes moves) best_text (Words lurd ∷ Int (pos pushes) ∷ Int (pos moves) ∷ [])
best_update id lurd pushes moves = record {
  project = best_terms;
  out = λ row. column row 0 ∷ column row 0 ∷ Null ∷ column row 1 ∷ column row 2 ∷ Words lurd ∷ Int (pos pushes) ∷ Int (pos moves) ∷ Int (pos 0) ∷ [];
  is = best_is;
  plain = best_plain;
  posed = best_posed;
  puts = λ r. refl;
  typed = refl;
  becomes = λ leaf. refl;
}

pub verdict_update : (id verdict : ℕ) → IsUpdate id (leaf_with_verdict verdict) verdict_text (Int (pos verdict) ∷ [])
verdict_update id verdict = record {
  project = verdict_terms;
  out = λ row.
      column row 0 ∷ column row 0 ∷ Null ∷ column row 1 ∷ column row 2 ∷ column row 3 ∷ column row 4 ∷ column row 5 ∷ Int (pos verdict) ∷ [];
  is = verdict_is;
  plain = verdict_plain;
  posed = verdict_posed;
  puts = λ r. refl;
  typed = refl;
  becomes = λ leaf. refl;
}

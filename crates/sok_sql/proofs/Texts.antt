-- What the texts mean under the schema.
use Rattle.std.proofs.Common.{◌≡◌, ℕ, pos, negsuc, List, [], ◌∷◌, ◌++◌, codes, true, false, Ok, Err, Result, None, ap, refl, is_ok, length, nat_le}
use Rattle.sqlite.specs.declared.types.Value.TheVariants.{Null, Int}
use Rattle.sqlite.specs.Term.{Term, lit, col, op2}
use Rattle.sqlite_sql.specs.declared.ops.BinaryOp.TheVariants.{Compare}
use Rattle.sqlite_sql.specs.declared.ops.CompareOp.TheVariants.{Eq}
use Rattle.sqlite_value.specs.declared.keys.Collation.TheVariants.{Binary}
use Rattle.sqlite_value.specs.declared.keys.Key.{Key}
use Rattle.sqlite_value.specs.Keys.{ascending}
use Rattle.sqlite.specs.Query.{Query, inner, end}
use Rattle.sqlite.specs.Source.TheVariants.{Values}
use Rattle.sqlite.specs.Compile.{table_defined_by}
use Rattle.sqlite.specs.Command.TheVariants.{Insert, Select, Update, CreateTable}
use Rattle.sqlite_resolve.specs.declared.compiled.Compiled.{Compiled}
use Rattle.sqlite_resolve.specs.declared.error.CompileError.{CompileError}
use Rattle.sqlite_resolve.specs.declared.error.CompileError.TheVariants.{NoSuchTable}
use Rattle.std.specs.Fmt.{digits}
use Rattle.sqlite.specs.Change.{created}
use Rattle.sqlite_tied.specs.Compute.{everything}
use Rattle.sqlite.specs.Listing.{understood, reads_listing, listing_schema}
use Rattle.sqlite.proofs.Callers.{IsPlain, command_of, statement_of}
use Rattle.sok_sql.specs.Leaves.{level, level_schema, no_schema}

abbrev pub create_text : List ℕ
create_text =
    codes "CREATE TABLE level (id INTEGER PRIMARY KEY, text TEXT NOT NULL UNIQUE, title BLOB, "
    ++ codes "lurd TEXT, pushes INTEGER, moves INTEGER, verdict INTEGER NOT NULL) STRICT"

abbrev pub insert_text : List ℕ
insert_text = codes "INSERT INTO level (id, text, title, verdict) VALUES (?1, ?2, ?3, 0)"

abbrev pub best_text : List ℕ
best_text = codes "UPDATE level SET lurd = ?2, pushes = ?3, moves = ?4, verdict = 0 WHERE id = ?1"

abbrev pub verdict_text : List ℕ
verdict_text = codes "UPDATE level SET verdict = ?2 WHERE id = ?1"

abbrev pub one_text : List ℕ
one_text = codes "SELECT id, text, title, lurd, pushes, moves, verdict FROM level WHERE id = ?1"

abbrev pub all_text : List ℕ
all_text = codes "SELECT id, text, title, lurd, pushes, moves, verdict FROM level ORDER BY id"

abbrev pub find_text : List ℕ
find_text = codes "SELECT id FROM level WHERE text = ?1 ORDER BY id"

abbrev pub last_text : List ℕ
last_text = codes "SELECT id FROM level ORDER BY id DESC LIMIT 1"

-- ---- the queries

-- of the row with the id that is the first parameter
abbrev pub pick_query : List Term → Query
pick_query project = record {
  from = inner 0 end;
  filter = op2 (Compare Eq Binary) (col 1 0) (col 0 0) ∷ [];
  group = None;
  project = project;
  distinct = false;
  collations = [];
  order = [];
  limit = lit (Int (negsuc 0));
  offset = lit (Int (pos 0));
}

-- every column
abbrev pub whole : List Term
whole = col 1 0 ∷ col 1 2 ∷ col 1 3 ∷ col 1 4 ∷ col 1 5 ∷ col 1 6 ∷ col 1 7 ∷ []

-- the row as an update writes it: its id before and after, and then its columns
abbrev pub best_terms : List Term
best_terms =
    col 1 0 ∷ col 1 0 ∷ lit Null ∷ col 1 2 ∷ col 1 3 ∷ col 0 1 ∷ col 0 2 ∷ col 0 3 ∷ lit (Int (pos 0)) ∷ []

abbrev pub verdict_terms : List Term
verdict_terms = col 1 0 ∷ col 1 0 ∷ lit Null ∷ col 1 2 ∷ col 1 3 ∷ col 1 4 ∷ col 1 5 ∷ col 1 6 ∷ col 0 1 ∷ []

abbrev pub all_query : Query
all_query = record (pick_query whole) { filter = []; order = (col 1 0, ascending Binary) ∷ [] }

abbrev pub find_query : Query
find_query = record (pick_query (col 1 0 ∷ [])) {
  filter = op2 (Compare Eq Binary) (col 1 2) (col 0 0) ∷ [];
  order = (col 1 0, ascending Binary) ∷ [];
}

abbrev pub down : Key
down = record { collation = Binary; descending = true }

abbrev pub last_query : Query
last_query = record (pick_query (col 1 0 ∷ [])) {
  filter = [];
  order = (col 1 0, down) ∷ [];
  limit = lit (Int (pos 1));
}

-- ---- what the texts mean

-- a text is one statement with so many parameters
abbrev pub IsPosed : List ℕ → ℕ → Result Compiled CompileError → Type 0
IsPosed sql count (Ok c) = (nat_le (length sql) c.tail ≡ true) × (count ≡ length c.names)
IsPosed sql count (Err e) = ⊥

abbrev pub insert_terms : List Term
insert_terms = col 0 0 ∷ lit Null ∷ col 0 1 ∷ col 0 2 ∷ lit Null ∷ lit Null ∷ lit Null ∷ lit (Int (pos 0)) ∷ []

pub create_defines : table_defined_by create_text ≡ Ok level
unfolding understood everything
create_defines = refl

pub create_is : command_of (understood no_schema create_text) ≡ CreateTable
unfolding understood everything
create_is = refl

pub create_statement : statement_of create_text (understood no_schema create_text) ≡ create_text
unfolding understood everything
create_statement = refl

pub created_is : created no_schema level ≡ level_schema
unfolding digits
created_is = refl

pub create_again_fails : is_ok (understood level_schema create_text) ≡ false
unfolding understood everything
create_again_fails = refl

pub create_plain : IsPlain (understood no_schema create_text)
unfolding understood everything
create_plain = (refl, refl)

pub missing_is : understood no_schema all_text ≡ Err NoSuchTable
unfolding understood everything listing_schema
missing_is = refl

-- none of the queries is a statement where there is no table

pub all_missing : is_ok (understood no_schema all_text) ≡ false
all_missing = ap is_ok missing_is

pub one_missing : is_ok (understood no_schema one_text) ≡ false
unfolding understood everything listing_schema
one_missing = refl

pub find_missing : is_ok (understood no_schema find_text) ≡ false
unfolding understood everything listing_schema
find_missing = refl

pub last_missing : is_ok (understood no_schema last_text) ≡ false
unfolding understood everything listing_schema
last_missing = refl

pub insert_is : command_of (understood level_schema insert_text) ≡ Insert 0 (Values insert_terms 8)
unfolding understood everything
insert_is = refl

pub insert_plain : IsPlain (understood level_schema insert_text)
unfolding understood everything
insert_plain = (refl, refl)

abbrev pub update_with : List Term → Rattle.sqlite.specs.Command.Command
update_with terms = Update 0 (record { lets = []; body = pick_query terms })

pub best_is : command_of (understood level_schema best_text) ≡ update_with best_terms
unfolding understood everything
best_is = refl

pub best_plain : IsPlain (understood level_schema best_text)
unfolding understood everything
best_plain = (refl, refl)

pub verdict_is : command_of (understood level_schema verdict_text) ≡ update_with verdict_terms
unfolding understood everything
verdict_is = refl

pub verdict_plain : IsPlain (understood level_schema verdict_text)
unfolding understood everything
verdict_plain = (refl, refl)

abbrev pub names : List (List ℕ)
names = codes "id" ∷ codes "text" ∷ codes "title" ∷ codes "lurd" ∷ codes "pushes" ∷ codes "moves" ∷ codes "verdict" ∷ []

abbrev pub select_of : Query → List (List ℕ) → Rattle.sqlite.specs.Command.Command
select_of query columns = Select (record { lets = []; body = query }) columns

pub one_is : command_of (understood level_schema one_text) ≡ select_of (pick_query whole) names
unfolding understood everything
one_is = refl

pub one_plain : IsPlain (understood level_schema one_text)
unfolding understood everything
one_plain = (refl, refl)

pub one_unlisted : reads_listing level_schema one_text ≡ false
unfolding understood everything
one_unlisted = refl

pub all_is : command_of (understood level_schema all_text) ≡ select_of all_query names
unfolding understood everything
all_is = refl

pub all_plain : IsPlain (understood level_schema all_text)
unfolding understood everything
all_plain = (refl, refl)

pub all_unlisted : reads_listing level_schema all_text ≡ false
unfolding understood everything
all_unlisted = refl

pub find_is : command_of (understood level_schema find_text) ≡ select_of find_query (codes "id" ∷ [])
unfolding understood everything
find_is = refl

pub find_plain : IsPlain (understood level_schema find_text)
unfolding understood everything
find_plain = (refl, refl)

pub find_unlisted : reads_listing level_schema find_text ≡ false
unfolding understood everything
find_unlisted = refl

pub last_is : command_of (understood level_schema last_text) ≡ select_of last_query (codes "id" ∷ [])
unfolding understood everything
last_is = refl

pub last_plain : IsPlain (understood level_schema last_text)
unfolding understood everything
last_plain = (refl, refl)

pub last_unlisted : reads_listing level_schema last_text ≡ false
unfolding understood everything
last_unlisted = refl

pub one_posed : IsPosed one_text 1 (understood level_schema one_text)
unfolding understood everything
one_posed = (refl, refl)

pub all_posed : IsPosed all_text 0 (understood level_schema all_text)
unfolding understood everything
all_posed = (refl, refl)

pub find_posed : IsPosed find_text 1 (understood level_schema find_text)
unfolding understood everything
find_posed = (refl, refl)

pub last_posed : IsPosed last_text 0 (understood level_schema last_text)
unfolding understood everything
last_posed = (refl, refl)

pub insert_posed : IsPosed insert_text 3 (understood level_schema insert_text)
unfolding understood everything
insert_posed = (refl, refl)

pub best_posed : IsPosed best_text 4 (understood level_schema best_text)
unfolding understood everything
best_posed = (refl, refl)

pub verdict_posed : IsPosed verdict_text 2 (understood level_schema verdict_text)
unfolding understood everything
verdict_posed = (refl, refl)

pub create_posed : IsPosed create_text 0 (understood no_schema create_text)
unfolding understood everything
create_posed = (refl, refl)

-- The table of levels: its columns, and the values of its rows.
use Rattle.std.specs.Prelude.{ℕ, suc, ◌+◌, pos, Bool, true, false, List, [], ◌∷◌, codes, Option, Some, None, map}
use Rattle.std.specs.Prelude.{length, if◌then◌else◌, bytes_eq}
use Rattle.std.specs.List.Sorted.{IsPermutation, IsSorted}
use Rattle.std.specs.Ordering.{on}
use Rattle.sqlite.specs.Collation.TheVariants.{Binary}
use Rattle.sqlite.specs.declared.types.Value.TheVariants.{Null, Int, Text as Words, Blob as Bytes}
use Rattle.sqlite.specs.Values.{or_null}
use Rattle.sqlite.specs.Order.{Row, column, value_cmp}
use Rattle.sqlite.specs.Tree.{Trees}
use Rattle.sqlite.specs.Table.{Table}
use Rattle.sqlite_schema.specs.declared.schema.Column.{Column}
use Rattle.sqlite_schema.specs.declared.schema.Kind.{Kind}
use Rattle.sqlite_schema.specs.declared.schema.Index.{Index}
use Rattle.sqlite.specs.Schema.{Schema}
use Rattle.sqlite.specs.Kind.TheVariants.{Integer, Text, Blob}

abbrev pub strict : List ℕ → Kind → Bool → Column
strict name kind required =
    record { name = name; kind = kind; is_strict = true; not_null = required; default = Null; collation = Binary }

abbrev pub level : Table
level = record {
  name = codes "level";
  tree = 0;
  columns = strict (codes "id") Integer false ∷ strict (codes "text") Text true ∷ strict (codes "title") Blob false
      ∷ strict (codes "lurd") Text false ∷ strict (codes "pushes") Integer false ∷ strict (codes "moves") Integer false
      ∷ strict (codes "verdict") Integer true ∷ [];
  key = Some 0;
  primary = 0 ∷ [];
  uniques = (2 ∷ []) ∷ [];
  orders = (record { digits = 0 }) ∷ [];
  checks = [];
  references = [];
  computed = [];
  stamps = record { places = []; terms = []; formats = [] };
  is_counted = false;
}

abbrev pub level_key : Index
level_key =
    record { name = codes "sqlite_autoindex_level_1"; tree = 1; table = 0; columns = 2 ∷ []; order = record { digits = 0 }; is_unique = true }

-- the table of levels and the index of its texts, and nothing else
abbrev pub level_schema : Schema
level_schema = record { tables = level ∷ []; indexes = level_key ∷ []; views = [] }

abbrev pub no_schema : Schema
no_schema = record { tables = []; indexes = []; views = [] }

-- the values of a row of the table, besides its id
pub record Leaf : Type 0 where
  pub text : List ℕ
  pub title : Option (List ℕ)
  pub lurd : Option (List ℕ)
  pub pushes : Option ℕ
  pub moves : Option ℕ
  pub verdict : ℕ

-- the values for a level that is new in the table
abbrev pub new_leaf : List ℕ → Option (List ℕ) → Leaf
new_leaf text title = record { text = text; title = title; lurd = None; pushes = None; moves = None; verdict = 0 }

-- the values with this best solution and no verdict yet
abbrev pub leaf_with_best : List ℕ → ℕ → ℕ → Leaf → Leaf
leaf_with_best lurd pushes moves leaf = record leaf { lurd = Some lurd; pushes = Some pushes; moves = Some moves; verdict = 0 }

abbrev pub leaf_with_verdict : ℕ → Leaf → Leaf
leaf_with_verdict verdict leaf = record leaf { verdict = verdict }

-- the values in the order of the columns
abbrev pub values : Leaf → Row
values leaf =
    Words leaf.text ∷ or_null Bytes leaf.title ∷ or_null Words leaf.lurd ∷ or_null (λ n. Int (pos n)) leaf.pushes
    ∷ or_null (λ n. Int (pos n)) leaf.moves ∷ Int (pos leaf.verdict) ∷ []

-- the row as it is stored: the id comes first, and the column of the id is NULL
abbrev pub stored : ℕ → Leaf → Row
stored id leaf = Int (pos id) ∷ Null ∷ values leaf

-- what SQL sees of a row of the table
abbrev pub seen : Row → Row
seen row =
    column row 0 ∷ column row 2 ∷ column row 3 ∷ column row 4 ∷ column row 5 ∷ column row 6 ∷ column row 7 ∷ []

-- what SQL sees of the row with this id
abbrev pub shown : ℕ → Leaf → Row
shown id leaf = Int (pos id) ∷ values leaf

-- these rows, whose ids count from this one
abbrev pub shown_from : ℕ → List Leaf → List Row
shown_from id [] = []
shown_from id (leaf ∷ more) = shown id leaf ∷ shown_from (id + 1) more

-- the table has exactly these rows, in some order, with the ids 1, 2, 3 and so on
abbrev pub HasLeaves : Trees → List Leaf → Type 0
HasLeaves db leaves = IsPermutation (map seen (db 0)) (shown_from 1 leaves)

-- the rows of the table as SQL sees them, in order of their ids
pub record ListsTable (table rows : List Row) : Type 0 where
  pub same : IsPermutation (map seen table) rows
  pub sorted : IsSorted (on (λ (r : Row). column r 0) value_cmp) rows

-- the ids of the rows with this text, where ids count from this one
abbrev pub ids_with : List ℕ → ℕ → List Leaf → List ℕ
ids_with text id [] = []
ids_with text id (leaf ∷ more) = if bytes_eq leaf.text text then id ∷ ids_with text (id + 1) more else ids_with text (id + 1) more

-- a row that has only an id
abbrev pub id_row : ℕ → Row
id_row id = Int (pos id) ∷ []

-- the row with an id, if there is one
abbrev pub row_at : ℕ → Option Leaf → List Row
row_at id None = []
row_at id (Some leaf) = shown id leaf ∷ []

-- the id of the last row, if there is one
abbrev pub last_ids : List Leaf → List ℕ
last_ids [] = []
last_ids (leaf ∷ more) = suc (length more) ∷ []

-- Why the table is not made where there is nothing: the store gave a cause.
use Rattle.std.proofs.Common.{◌≡◌, ◌⊎◌, inl, inr, refl, sym, ap, subst, ◌∙◌, arith}
use Rattle.std.proofs.Common.{ℕ, ◌+◌, ◌*◌, ◌^◌, ◌≤◌, ◌==◌, List, ◌∷◌, [], length, codes, Option, Some, None, Ok, Err, IsTrue, IsUtf8, true, false}
use Rattle.std.proofs.lemmas.Bool.{cases_Bool}
use Rattle.sqlite_schema.specs.declared.schema.Table.{Table}
use Rattle.sqlite_catalog.specs.Calls.{IsBadName, RefusesTable}
use Rattle.sqlite_catalog.specs.Change.{automatics, is_reserved, is_used, next_tree}
use Rattle.sqlite_catalog.specs.Listing.{is_fit, is_formed}
use Rattle.sqlite_schema.specs.declared.schema.Index.{Index}
use Rattle.sqlite_schema.specs.Rules.{index_reals, table_reals}
use Rattle.sqlite_rules.specs.Lists.{Has}
use Rattle.sqlite_trees.specs.Sound.{begins, fits_kind, is_free_name, same_name}
use Rattle.sqlite_value.specs.Order.{value_cmp}
use Rattle.sqlite.specs.declared.types.Value.TheVariants.{Text}
use Rattle.sqlite_catalog.specs.declared.error.Refusal as alter
use Rattle.sqlite_catalog.specs.declared.error.Refusal.TheVariants as why
use Rattle.sqlite.specs.declared.error.Error.{Error}
use Rattle.sqlite.specs.Command.TheVariants.{CreateTable}
use Rattle.sqlite.specs.Compile.{table_defined_by}
use Rattle.sqlite.specs.Change.{created}
use Rattle.sqlite.specs.Does.{Does, MakesSequence, MakesTable, lacks_sequence}
use Rattle.sqlite.specs.Effect.{Database}
use Rattle.sqlite.specs.Tree.{Trees}
use Rattle.sqlite.specs.State.{State, Executes, IsMisplaced}
use Rattle.sqlite_tied.specs.Compute.{everything}
use Rattle.sok_sql.specs.Leaves.{level, level_schema, no_schema}
use Rattle.sok_sql.specs.Causes.{IsExcused}
use Rattle.sok_sql.proofs.Texts.{create_text, create_is, create_plain, create_posed, create_statement, created_is, create_defines}
use Rattle.sok_sql.proofs.Writes.{mode}
use Rattle.sok_sql.proofs.Unwritten.{write_refused}

text_spelled : IsUtf8 create_text
unfolding lib.Utf8.encode
text_spelled = (create_text, (refl, refl))

name_spelled : IsUtf8 level.name
unfolding lib.Utf8.encode
name_spelled = (level.name, (refl, refl))

is_level : (table : Table) → table_defined_by create_text ≡ Ok table → table ≡ level
is_level table is = let both : Ok level ≡ Ok table = sym create_defines ∙ is in cc

module _ (table : Table) (is : table_defined_by create_text ≡ Ok table) where
  of_level : (P : Table → Type 0) → P table → P level
  of_level P h = subst P (is_level table is) h

  not_long : 10 ^ 9 ≤ 2 * length table.name + length create_text + 200 → ⊥
  not_long long =
      let short : 10 ^ 9 ≤ 2 * length level.name + length create_text + 200 =
      of_level (λ t. 10 ^ 9 ≤ 2 * length t.name + length create_text + 200) long in
      omega arith

  not_reserved : IsBadName table.name (length table.uniques == 0) → ⊥
  unfolding everything
  not_reserved (inl spelled) = of_level (λ t. ¬ IsUtf8 t.name) spelled name_spelled
  not_reserved (inr (reserved, own)) = absurd (let e : true ≡ false = sym (of_level (λ t. is_reserved t.name ≡ true) reserved) in cc)

  not_taken : (is_used no_schema table.name ≡ true)
      ⊎ ((index : Index) × Has (automatics table 0 0 table.uniques) index × (is_used no_schema index.name ≡ true)) → ⊥
  not_taken (inl used) = absurd (let e : false ≡ true = used in cc)
  not_taken (inr (index, has, used)) = absurd (let e : false ≡ true = used in cc)

  not_big : (65536 ≤ next_tree no_schema + length table.uniques)
      ⊎ ((2 ^ 64 ≤ table_reals table) ⊎ ((key : List ℕ) × Has table.uniques key × (2 ^ 64 ≤ index_reals (table_reals table) key))) → ⊥
  not_big (inl many) =
      let e : 65536 ≤ next_tree no_schema + length level.uniques = of_level (λ t. 65536 ≤ next_tree no_schema + length t.uniques) many in
      omega arith
  not_big (inr (inl reals)) = let e : 2 ^ 64 ≤ table_reals level = of_level (λ t. 2 ^ 64 ≤ table_reals t) reals in omega arith
  not_big (inr (inr (key, has, reals))) = elim (of_level (λ t. Has t.uniques key) has) [
    | inl same ↦ let e : 2 ^ 64 ≤ index_reals (table_reals level) (2 ∷ []) =
        subst (λ k. 2 ^ 64 ≤ index_reals (table_reals level) k) same (of_level (λ t. 2 ^ 64 ≤ index_reals (table_reals t) key) reals) in omega arith
    | inr none ↦ absurd none
  ]

  formed : is_formed table ≡ false → ⊥
  unfolding everything
  formed h = absurd (let e : true ≡ false = of_level (λ t. is_formed t ≡ false) h in cc)

  fits : is_fit (Text (codes "table")) (Text table.name) (Text table.name) (Text create_text) ≡ false → ⊥
  unfolding everything fits_kind is_free_name same_name begins value_cmp lib.Ieee.is_nan lib.Ieee.lt
  fits h = absurd (let e : true ≡ false = of_level (λ t. is_fit (Text (codes "table")) (Text t.name) (Text t.name) (Text create_text) ≡ false) h in cc)

allowed : (reason : alter.Refusal) → RefusesTable no_schema create_text reason → ⊥
allowed (why.Invalid e) is = absurd (let both : Ok level ≡ Err e = sym create_defines ∙ is in cc)
allowed why.NameTaken (table, is, taken) = not_taken table is taken
allowed why.BadName (table, is, named) = not_reserved table is named
allowed why.BadKey (table, is, key) = formed table is key
allowed why.BadText (table, is, fit) = fits table is fit
allowed why.TooBig (table, is, big) = not_big table is big
allowed (why.Violates rule) is = is

made_stops : (trees : Trees) (stop : Option Error) → MakesTable create_text (record { schema = no_schema; trees = trees }) (Err stop) → ⊥
made_stops trees None (table, is, long) = not_long table is long
made_stops trees (Some e) (inl spelled) = spelled.0 text_spelled
made_stops trees (Some e) (inr (reason, refused, named)) = allowed reason refused

sequence_stops : (after : Database) (stop : Option Error) → after.schema ≡ level_schema → MakesSequence after (Err stop) → ⊥
sequence_stops after stop is h = absurd (let plain : lacks_sequence after.schema ≡ false = ap lacks_sequence is in let e = rw plain at h in cc)

create_stops : (limit : Option ℕ) (trees : Trees) (stop : Option Error)
    → Does limit mode [] (record { schema = no_schema; trees = trees }) create_text None CreateTable (Err stop) → ⊥
create_stops limit trees stop (inl (reason, inl (first, made, same), ends)) = made_stops trees first made
create_stops limit trees stop (inl (reason, inr (after, made, sequence), ends)) =
    let same : made.table ≡ level = is_level made.table made.defined in
    sequence_stops after reason (made.is ∙ ap (created no_schema) same ∙ created_is) sequence
create_stops limit trees stop (inr (after, made, ends)) = absurd cc

create_placed : (s : State) (e : Error) → IsMisplaced s CreateTable e → ⊥
create_placed s e (inl (named, inl begins)) = absurd (let is = begins.0 in cc)
create_placed s e (inl (named, inr (inl commits, outside))) = absurd cc
create_placed s e (inl (named, inr (inr undoes, outside))) = absurd cc
create_placed s e (inr (named, name, inl releases, unnamed)) = absurd cc
create_placed s e (inr (named, name, inr returns, unnamed)) = absurd cc

pub create_refused : (old new : State) (e : Error) → (IsTrue old.is_open → old.now.schema ≡ no_schema) → Executes create_text [] old new (Err e)
    → IsExcused old new e
create_refused old new e empty h = elim (cases_Bool old.is_open) [
  | inl up ↦
      let has = empty up in
      elim (write_refused old new no_schema create_text [] has create_plain create_posed CreateTable create_is refl (create_placed old) e h) [
        | inl stops ↦
            let here = subst (λ t. Does old.step_limit mode [] old.now t None CreateTable (Err stops.0)) create_statement stops.1 in
            absurd (create_stops old.step_limit old.now.trees stops.0
            (subst (λ s. Does old.step_limit mode [] (record { schema = s; trees = old.now.trees }) create_text None CreateTable (Err stops.0)) has here))
        | inr why ↦ why
      ]
  | inr shut ↦ inr (inl shut)
]

-- The state of a position among the entries, at depth 0.
use Rattle.std.proofs.Common.{ℕ, ◌≡◌, ◌<◌, ◌∙◌, sym, ap, subst, List, Some, Contains, arith, length, slice_get}
use Rattle.std.specs.Map.{keys_of, values_of}
use Rattle.std.proofs.lemmas.Option.{same_Some, slice_get_within, slice_get-get_or}
use Rattle.std.proofs.lemmas.List.{length-map}
use Rattle.sok_rules.specs.Play.{Position}
use Rattle.sok_rules.proofs.Steps.{IsStanding}
use Rattle.sok_board.specs.Area.{BoardView}
use Rattle.sok_board.proofs.Lists.{Contains-at}
use Rattle.sok_state.specs.declared.key.Key.{Key}
use Rattle.sok_state.specs.Keys.{IsKeyOf}
use Rattle.sok_state.specs.Tables.{Entries, IsAt}
use Rattle.sok_state.proofs.States.{keys_equal, Same-keys}
use Rattle.sok_closed.specs.Rolls.{IsStarter, Node, node_position}
use Rattle.sok_closed.specs.Lookup.{IsLooking}
use Rattle.sok_closed.proofs.Looking.{entry_at}
use Rattle.sok_closed.proofs.Followed.{key-at, stands}

pub at-within : (table : Entries) (key : Key) (index : ℕ) → IsAt table key index → index < length table
at-within table key index at =
    let listed = length-map table (λ (entry : Key × ℕ). entry.0) in
    let within = slice_get_within (keys_of table) index key at in
    omega (arith, within, listed)

-- a starter's key is that of the position
pub starter-at : {E : Type 0} (node : E → Node) (b : BoardView) (count : ℕ) (entries : List E) (table : Entries) → IsLooking node b count entries table → (from : Position) → IsStanding b.rows from → (key : Key)
    → IsKeyOf b from key
    → (e : E) → IsStarter node b from entries e → (j : ℕ) × IsAt table key j × (slice_get (values_of table) j ≡ Some (node e).depth)
starter-at node b count entries table looking from standing key is e starter =
    let (j, within, same) = starter.listed in
    let there : slice_get entries j ≡ Some e = slice_get-get_or entries j e within ∙ ap Some same in
    let entry = looking.entered.entered j e within there in
    let equal : entry.key ≡ key = sym (keys_equal b looking.accepted.numbered from (node_position b (node e)) key entry.key standing is entry.is
    starter.same) in
    (j, subst (λ k. IsAt table k j) equal entry.there, entry.depth)

-- where it stands, its entry starts at depth 0
pub one-starts : {E : Type 0} (node : E → Node) (b : BoardView) (count : ℕ) (entries : List E) (table : Entries) → IsLooking node b count entries table → (from : Position) → IsStanding b.rows from → (key : Key)
    → IsKeyOf b from key
    → (index deep : ℕ) → IsAt table key index → slice_get (values_of table) index ≡ Some deep → deep ≡ 0 → (e : E) × IsStarter node b from entries e
one-starts node b count entries table looking from standing key is index deep at depth_is zero_deep =
    let as_many = looking.entered.count in
    let below = at-within table key index at in
    let within : index < length entries = omega (arith, below, as_many) in
    let (f, there) = entry_at entries index within in
    let entry = looking.entered.entered index f within there in
    let listed : Contains entries f = Contains-at entries f index there in (
      f,
      record {
        listed = listed;
        first = same_Some (node f).depth deep (sym entry.depth ∙ depth_is) ∙ zero_deep;
        same = Same-keys b from (node_position b (node f)) key (stands node b count entries table looking f listed) is
            (key-at node b count entries table looking index f key there at);
      },
    )

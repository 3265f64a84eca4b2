-- Whether the state that a push leads to is in a table.
use Rattle.std.proofs.Common.{ℕ, zero, suc, List, [], ◌∷◌, ◌++◌, length, ◌≡◌, ◌<◌, ◌≤◌, ◌+◌, ◌∙◌, inl, inr, refl, sym, ap, subst, Some, Bool, true, false, Contains, arith, slice_get}
use Rattle.std.specs.Map.{keys_of, values_of}
use Rattle.std.proofs.lemmas.Bool.{cases_eq, cases_lt}
use Rattle.std.proofs.lemmas.Option.{same_Some, slice_get_within, get_or_from_slice_get}
use Rattle.sok_rules.specs.declared.cell.Dir.TheVariants.{Left}
use Rattle.sok_rules.specs.Play.{Position}
use Rattle.sok_rules.proofs.Steps.{IsStanding, IsStanding-step}
use Rattle.sok_rules.proofs.Walking.{Same-refl}
use Rattle.sok_board.specs.Area.{BoardView, IsAccepted, IsArea}
use Rattle.sok_board.proofs.Lists.{Contains-at, slice_get-append}
use Rattle.sok_state.specs.declared.key.Key.{Key}
use Rattle.sok_state.specs.declared.push.Push.{Push}
use Rattle.sok_state.specs.Keys.{IsKeyOf}
use Rattle.sok_state.specs.Pushes.{LeadsTo}
use Rattle.sok_state.specs.Tables.{Entries, HasDistinctKeys, IsAt}
use Rattle.sok_state.proofs.Placed.{IsStanding-placed}
use Rattle.sok_state.proofs.States.{keys_equal}
use Rattle.sok_closed.specs.Rolls.{IsPosition, Node, node_position}
use Rattle.sok_closed.specs.Lookup.{IsEntered, IsMissing, TellsFound}

-- what stands at a place
pub entry_at : {X : Type 0} (xs : List X) (i : ℕ) → i < length xs → (x : X) × (slice_get xs i ≡ Some x)
entry_at [] i within = absurd (omega arith)
entry_at (x ∷ xs) zero within = (x, refl)
entry_at (x ∷ xs) (suc i) within = entry_at xs i (omega arith)

-- what stands in a front of a list at a place of it
pub slice_get-front : {X : Type 0} (xs ys : List X) (i : ℕ) (x : X) → i < length xs → slice_get (xs ++ ys) i ≡ Some x → slice_get xs i ≡ Some x
slice_get-front xs ys i x within there =
    let (y, y_there) = entry_at xs i within in
    y_there ∙ sym (slice_get-append xs ys i y y_there) ∙ there

-- one key stands at an index
pub same_key : (table : Entries) (i : ℕ) (first second : Key) → IsAt table first i → IsAt table second i → first ≡ second
same_key table i first second at also = same_Some first second (sym at ∙ also)

-- the key at a node's place is the node's
pub entered-key : (b : BoardView) (table : Entries) (i : ℕ) (n : Node) (key : Key) → IsEntered b table i n → IsAt table key i
    → IsKeyOf b (node_position b n) key
entered-key b table i n key entry at = subst (IsKeyOf b (node_position b n)) (same_key table i entry.key key entry.there at) entry.is

-- the man of a node stands where he may
pub node-stands : (b : BoardView) → IsAccepted b → (count : ℕ) (n : Node) → IsPosition b count n → IsStanding b.rows (node_position b n)
node-stands b accepted count n position = IsStanding-placed b accepted.numbered accepted.proper n.player n.boxes position.placed

-- a key stands at one index alone
pub same_index : (table : Entries) → HasDistinctKeys table → (key : Key) (i j : ℕ) → IsAt table key i → IsAt table key j → i ≡ j
same_index table distinct key i j first second =
    let i_within = slice_get_within (keys_of table) i key first in
    let j_within = slice_get_within (keys_of table) j key second in
    let i_is = get_or_from_slice_get (keys_of table) i key key first in
    let j_is = get_or_from_slice_get (keys_of table) j key key second in
    elim (cases_eq i j) [
      | inl same ↦ same
      | inr apart ↦ elim (cases_lt i j) [
        | inl below ↦ absurd (distinct i j key below j_within (i_is ∙ sym j_is))
        | inr past ↦ absurd (distinct j i key (omega (arith, apart, past)) i_within (j_is ∙ sym i_is))
      ]
    ]

-- the man stands where he may after a push
pub standing-after : (b : BoardView) (key : Key) (push : Push) (after : Position) → LeadsTo b key push after → IsStanding b.rows after
standing-after b key push after leads = IsStanding-step b.rows push.dir leads.before (record { position = after; pushed = true }) leads.steps

-- the key of the state that a push leads to is one alone
next-is : (b : BoardView) → IsArea b.rows b.area → (key : Key) (push : Push) (next other : Key)
    → ((after : Position) → LeadsTo b key push after → IsKeyOf b after next)
    → (after : Position) → LeadsTo b key push after → IsKeyOf b after other → other ≡ next
next-is b area key push next other is after leads other_is =
    keys_equal b area after after other next (standing-after b key push after leads) other_is (is after leads) (Same-refl b.rows after)

pub IsMissing-absent : (b : BoardView) → IsArea b.rows b.area → (table : Entries) (key : Key) (depth : ℕ) (push : Push) (next : Key)
    → ((after : Position) → LeadsTo b key push after → IsKeyOf b after next)
    → (Contains (keys_of table) next → ⊥) → IsMissing b table key depth push
IsMissing-absent b area table key depth push next is absent after other index deep leads other_is there depth_is near =
    absent (subst (Contains (keys_of table)) (next-is b area key push next other is after leads other_is) (Contains-at (keys_of table) other index there))

-- what the depth of a present state tells
pub TellsFound-near : (b : BoardView) → IsArea b.rows b.area → (table : Entries) → HasDistinctKeys table → (key : Key) (depth : ℕ) (push : Push) (next : Key)
    → ((after : Position) → LeadsTo b key push after → IsKeyOf b after next)
    → (index deep : ℕ) → IsAt table next index → slice_get (values_of table) index ≡ Some deep → (near : Bool) → (near ≡ true → deep ≤ depth + 1) →
    (near ≡ false → deep ≤ depth + 1 → ⊥) → TellsFound b table key depth push near
TellsFound-near b area table distinct key depth push next is index deep there depth_is true nearby far = record {
  next = next;
  is = is;
  index = index;
  there = there;
  deep = deep;
  depth_is = depth_is;
  near = nearby refl;
}
TellsFound-near b area table distinct key depth push next is index deep there depth_is false nearby far =
    λ after other at other_deep leads other_is other_there other_depth near.
    let same : other ≡ next = next-is b area key push next other is after leads other_is in
    let here : at ≡ index = same_index table distinct next at index (subst (λ k. IsAt table k at) same other_there) there in
    let as_deep : other_deep ≡ deep = same_Some other_deep deep (sym other_depth ∙ ap (slice_get (values_of table)) here ∙ depth_is) in
    far refl (subst (λ n. n ≤ depth + 1) as_deep near)

abbrev pub no_push : Push
no_push = record { from = 0; dir = Left }

-- One entry more in the table.
use Rattle.std.proofs.Common.{ℕ, ◌≡◌, ◌<◌, ◌≤◌, ◌+◌, ◌∙◌, ◌≢◌, inl, inr, sym, ap, subst, List, [], ◌∷◌, ◌++◌, Some, Bool, true, false}
use Rattle.std.proofs.Common.{below_more, MatchBool, All, AllPairs, Contains, arith, length, get_or, slice_get}
use Rattle.std.specs.Map.{keys_of, values_of}
use Rattle.std.proofs.lemmas.Option.{same_Some, slice_get_within}
use Rattle.std.proofs.lemmas.List.{get_or_default, length-append, length-map, map-append}
use Rattle.sok_rules.specs.Play.{Position}
use Rattle.sok_rules.specs.States.{Same}
use Rattle.sok_rules.proofs.Steps.{IsStanding}
use Rattle.sok_rules.proofs.Walking.{boxes-Same}
use Rattle.sok_board.specs.Area.{BoardView, IsAccepted, position_of}
use Rattle.sok_board.specs.Limits.{box_limit}
use Rattle.sok_board.proofs.Lists.{AllPairs-append, Contains-at, slice_get-push, slice_get-append, slice_get-push_cases}
use Rattle.sok_state.specs.declared.key.Key.{Key}
use Rattle.sok_state.specs.Keys.{IsKey, IsKeyOf}
use Rattle.sok_state.specs.Tables.{Entries, IsAt}
use Rattle.sok_state.proofs.Placed.{same_boxes}
use Rattle.sok_state.proofs.States.{keys_equal, Same-keys}
use Rattle.sok_closed.specs.Rolls.{IsPosition, Node, node_position}
use Rattle.sok_closed.specs.Lookup.{AreKeys, IsEntered, IsRolled, IsTableOf, Rolled}
use Rattle.sok_closed.proofs.Looking.{entered-key, entry_at, slice_get-front}

-- an entry whose key stands in the table has the state of the one there
pub found-place : {E : Type 0} (node : E → Node) (b : BoardView) (entries : List E) (i : ℕ) (table : Entries) (x : Position) (key : Key) (place : ℕ)
    → IsStanding b.rows x → i ≤ length entries → IsTableOf node b entries i table → IsKeyOf b x key → IsAt table key place
    → (f : E) × (place < i) × (slice_get entries place ≡ Some f) × Same b.rows (node_position b (node f)) x
found-place node b entries i table x key place stands exists entered is at =
    let listed_keys = length-map table (λ (entry : Key × ℕ). entry.0) in
    let key_within = slice_get_within (keys_of table) place key at in
    let count = entered.count in
    let within : place < i = omega (arith, key_within, listed_keys, count) in
    let (f, there) = entry_at entries place (omega (arith, within, exists)) in
    let f_is = entered-key b table place (node f) key (entered.entered place f within there) at in
    (f, within, there, Same-keys b (node_position b (node f)) x key stands f_is is)

-- one whose key does not is of no earlier state
pub absent-new : {E : Type 0} (node : E → Node) (b : BoardView) → IsAccepted b → (entries : List E) (i : ℕ) (table : Entries) (x : Position) (key : Key)
    → IsTableOf node b entries i table → IsKeyOf b x key → (Contains (keys_of table) key → ⊥)
    → (j : ℕ) (f : E) → j < i → slice_get entries j ≡ Some f → IsStanding b.rows (node_position b (node f)) → Same b.rows (node_position b (node f)) x → ⊥
absent-new node b accepted entries i table x key entered is absent j f below there stands same =
    let entry = entered.entered j f below there in
    let equal : entry.key ≡ key = keys_equal b accepted.numbered (node_position b (node f)) x entry.key key stands entry.is is same in
    absent (subst (Contains (keys_of table)) equal (Contains-at (keys_of table) entry.key j entry.there))

-- what holds of each element before a place, and of the one there, holds of each before the next place
pub before_more : {X : Type 0} (P : ℕ → X → Type 0) (xs : List X) (n : ℕ) (x : X) → slice_get xs n ≡ Some x
    → ((i : ℕ) (y : X) → i < n → slice_get xs i ≡ Some y → P i y) → P n x → (i : ℕ) (y : X) → i < n + 1 → slice_get xs i ≡ Some y → P i y
before_more {X} P xs n x there before here i y below at = below_more (λ k. (z : X) → slice_get xs k ≡ Some z → P k z) n
    (λ k k_below z z_at. before k z k_below z_at) (λ z z_at. subst (P n) (same_Some x z (sym there ∙ z_at)) here) i below y at

entered-more : (b : BoardView) (table more : Entries) (i : ℕ) (n : Node) → IsEntered b table i n → IsEntered b (table ++ more) i n
entered-more b table more i n entry = record {
  key = entry.key;
  there = ap (λ keys. slice_get keys i) (map-append (λ (one : Key × ℕ). one.0) table more) ∙ slice_get-append (keys_of table) (keys_of more) i entry.key
      entry.there;
  depth = ap (λ depths. slice_get depths i) (map-append (λ (one : Key × ℕ). one.1) table more) ∙ slice_get-append (values_of table) (values_of more) i n.depth
      entry.depth;
  is = entry.is;
}

differs : (table : Entries) (key : Key) → (Contains (keys_of table) key → ⊥) → All (λ k. All (λ other. k ≢ other) (key ∷ [])) (keys_of table)
differs table key absent = λ k d within n other_d n_within same.
    let first : n ≡ 0 = omega (arith, n_within) in
    absent (k, within, get_or_default (keys_of table) k key d within ∙ same ∙ ap (λ m. get_or (key ∷ []) m other_d) first)

-- the key of an entry goes last
pub IsTableOf-more : {E : Type 0} (node : E → Node) (b : BoardView) (entries : List E) (i : ℕ) (table : Entries) (e : E) (key : Key)
    → slice_get entries i ≡ Some e → IsTableOf node b entries i table → IsKeyOf b (node_position b (node e)) key → (Contains (keys_of table) key → ⊥)
    → IsTableOf node b entries (i + 1) (table ++ (key, (node e).depth) ∷ [])
IsTableOf-more node b entries i table e key there entered is absent =
    let depth = (node e).depth in
    let entry : Key × ℕ = (key, depth) in
    let more : Entries = entry ∷ [] in
    let keys : keys_of (table ++ more) ≡ keys_of table ++ key ∷ [] = map-append (λ (one : Key × ℕ). one.0) table more in
    let depths : values_of (table ++ more) ≡ values_of table ++ depth ∷ [] = map-append (λ (one : Key × ℕ). one.1) table more in
    let longer = length-append table more in
    let count = entered.count in
    let key_count = length-map table (λ (one : Key × ℕ). one.0) in
    let depth_count = length-map table (λ (one : Key × ℕ). one.1) in
    let key_last : i ≡ length (keys_of table) = omega (arith, count, key_count) in
    let depth_last : i ≡ length (values_of table) = omega (arith, count, depth_count) in
    record {
      count = omega (arith, longer, count);
      distinct = subst (AllPairs (λ k other. k ≢ other)) (sym keys)
          (AllPairs-append (λ k other. k ≢ other) (keys_of table) (key ∷ []) entered.distinct (λ n m d below within. absurd (omega (arith, below, within)))
          (differs table key absent));
      entered = before_more (λ j f. IsEntered b (table ++ more) j (node f)) entries i e there
          (λ j f below f_there. entered-more b table more j (node f) (entered.entered j f below f_there)) (record {
            key = key;
            there = ap (λ some. slice_get some i) keys ∙ ap (slice_get (keys_of table ++ key ∷ [])) key_last ∙ slice_get-push (keys_of table) key;
            depth = ap (λ some. slice_get some i) depths ∙ ap (slice_get (values_of table ++ depth ∷ [])) depth_last
                ∙ slice_get-push (values_of table) depth;
            is = is;
          });
    }

-- and so does its mark
pub IsRolled-more : {E : Type 0} (node : E → Node) (b : BoardView) (entries : List E) (i : ℕ) (roll after : Rolled) (e : E) (key : Key)
    → slice_get entries i ≡ Some e → IsRolled node b entries i roll → IsKeyOf b (node_position b (node e)) key → (Contains (keys_of roll.entries) key → ⊥)
    → after.entries ≡ roll.entries ++ (key, (node e).depth) ∷ [] → after.marks ≡ roll.marks ++ (node e).expanded ∷ []
    → IsRolled node b entries (i + 1) after
IsRolled-more node b entries i roll after e key there rolled is absent entries_are marks_are =
    let mark = (node e).expanded in
    let as_many = rolled.as_many in
    let longer = length-append roll.marks (mark ∷ []) in
    let last : i ≡ length roll.marks = sym as_many in
    record {
      table = subst (IsTableOf node b entries (i + 1)) (sym entries_are) (IsTableOf-more node b entries i roll.entries e key there rolled.table is absent);
      as_many = ap length marks_are ∙ omega (arith, longer, as_many);
      marks = before_more (λ j f. slice_get after.marks j ≡ Some (node f).expanded) entries i e there
          (λ j f below f_there. ap (λ marks. slice_get marks j) marks_are
          ∙ slice_get-append roll.marks (mark ∷ []) j (node f).expanded (rolled.marks j f below f_there))
          (ap (λ marks. slice_get marks i) marks_are ∙ ap (slice_get (roll.marks ++ mark ∷ [])) last ∙ slice_get-push roll.marks mark);
    }

-- what a look-up tells, by its answer
pub present : (P Q : Type 0) (found : Bool) → MatchBool found P Q → found ≡ true → P
present P Q found told is = subst (λ t. MatchBool t P Q) is told

pub missing : (P Q : Type 0) (found : Bool) → MatchBool found P Q → found ≡ false → Q
missing P Q found told is = subst (λ t. MatchBool t P Q) is told

-- ---- a front of a list

-- what holds of each element before a place holds of the same of a longer list
pub before-append : {X : Type 0} (P Q : ℕ → X → Type 0) (xs ys : List X) (n : ℕ) → n ≤ length xs → ((i : ℕ) (x : X) → i < n → P i x → Q i x)
    → ((i : ℕ) (x : X) → i < n → slice_get xs i ≡ Some x → P i x) → (i : ℕ) (x : X) → i < n → slice_get (xs ++ ys) i ≡ Some x → Q i x
before-append P Q xs ys n within to before i x below there = to i x below (before i x below (slice_get-front xs ys i x (omega arith) there))

pub IsRolled-append : {E : Type 0} (node : E → Node) (b : BoardView) (entries more : List E) (n : ℕ) (roll : Rolled) → n ≤ length entries
    → IsRolled node b entries n roll → IsRolled node b (entries ++ more) n roll
IsRolled-append {E} node b entries more n roll within rolled =
    let entered : ℕ → E → Type 0 = λ i e. IsEntered b roll.entries i (node e) in
    let marked : ℕ → E → Type 0 = λ i e. slice_get roll.marks i ≡ Some (node e).expanded in
    record {
      table = record {
        count = rolled.table.count;
        distinct = rolled.table.distinct;
        entered = before-append entered entered entries more n within (λ i e below is. is) rolled.table.entered;
      };
      as_many = rolled.as_many;
      marks = before-append marked marked entries more n within (λ i e below is. is) rolled.marks;
    }

-- a key of the board more
pub AreKeys-more : (b : BoardView) (table : Entries) (key : Key) (depth : ℕ) → AreKeys b table → IsKey b key × (length key.boxes ≤ box_limit)
    → AreKeys b (table ++ (key, depth) ∷ [])
AreKeys-more b table key depth keys is i one at =
    let entry : Key × ℕ = (key, depth) in
    let there : slice_get (keys_of table ++ key ∷ []) i ≡ Some one =
    subst (λ all. slice_get all i ≡ Some one) (map-append (λ (pair : Key × ℕ). pair.0) table (entry ∷ [])) at in
    elim (slice_get-push_cases (keys_of table) key i one there) [
      | inl before ↦ keys i one before
      | inr last ↦ subst (λ k. IsKey b k × (length k.boxes ≤ box_limit)) last.1 is
    ]

-- the key of a position is of the board
pub IsKey-position : (b : BoardView) → IsAccepted b → (count : ℕ) (n : Node) (key : Key) → count ≤ box_limit → IsPosition b count n
    → IsKeyOf b (node_position b n) key → IsKey b key × (length key.boxes ≤ box_limit)
IsKey-position b accepted count n key few position is =
    let boxes : key.boxes ≡ n.boxes = same_boxes b accepted.numbered key.least n.player key.boxes n.boxes is.placed position.placed
    (boxes-Same b.rows (node_position b n) (position_of b key.least key.boxes) is.same) in
    let as_many = position.as_many in (
      record { player = n.player; boxes = n.boxes; placed = position.placed; is = is },
      omega (arith, ap length boxes, as_many, few),
    )

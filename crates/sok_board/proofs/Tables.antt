-- Entries of tables: at a write, and at every other square.
use Rattle.std.proofs.Common.{ℕ, Option, Some, None, refl, replicate, ◌≡◌, ◌≢◌, ◌<◌, ◌≤◌, inl, inr, sym, ap, ◌∙◌, List, true, false, true≢false, arith, length}
use Rattle.std.proofs.Common.{get_or, set, nat_lt, if◌then◌else◌}
use Rattle.std.proofs.lemmas.Bool.Decides.{nat_tests}
use Rattle.std.proofs.lemmas.Bool.{cases_Bool, cases_lt}
use Rattle.std.proofs.lemmas.List.{get_or-set_same, get_or-set_other, get_or_past, get_or-replicate, length-replicate}
use Rattle.sok_rules.specs.declared.cell.Spot.{Spot}
use Rattle.sok_rules.specs.Squares.{same_spot}
use Rattle.sok_board.specs.Tables.{table_side, place_of, entry}
use Rattle.sok_rules.proofs.Spots.{same_spot-refl}

pub entry-past : {X : Type 0} (other : X) (table : List X) (s : Spot) → table_side ≤ s.col → entry other table s ≡ other
unfolding entry
entry-past other table s beyond = let past : nat_lt s.col table_side ≡ false = grind (arith, nat_tests, beyond) in
    ap (λ b. if b then get_or table (place_of s) other else other) past

pub entry-within : {X : Type 0} (other : X) (table : List X) (s : Spot) → s.col < table_side → entry other table s ≡ get_or table (place_of s) other
unfolding entry
entry-within other table s short = let within : nat_lt s.col table_side ≡ true = grind (arith, nat_tests, short) in
    ap (λ b. if b then get_or table (place_of s) other else other) within

pub entry-set_same : {X : Type 0} (other x : X) (table : List X) (s : Spot) → s.col < table_side → place_of s < length table
    → entry other (set table (place_of s) x) s ≡ x
entry-set_same other x table s short within = entry-within other (set table (place_of s) x) s short ∙ get_or-set_same table (place_of s) x other within

-- squares within the columns are told apart by their places
pub same_place : (a s : Spot) → a.col < table_side → s.col < table_side → place_of a ≡ place_of s → a ≡ s
same_place a s short_a short_s same =
    let row : a.row ≡ s.row = omega (arith, short_a, short_s, same) in
    let col : a.col ≡ s.col = omega (arith, short_a, short_s, same) in
    λ i. record { row = row i; col = col i }

pub entry-set_other : {X : Type 0} (other x : X) (table : List X) (a s : Spot) → a.col < table_side → same_spot a s ≡ false
    → entry other (set table (place_of a) x) s ≡ entry other table s
entry-set_other other x table a s short apart = elim (cases_Bool (nat_lt s.col table_side)) [
  | inl within ↦
      let short_s : s.col < table_side = grind (arith, nat_tests) in
      let elsewhere : place_of s ≢ place_of a = λ same. true≢false
      (sym (same_spot-refl a) ∙ ap (same_spot a) (same_place a s short short_s (sym same)) ∙ apart) in
      entry-within other (set table (place_of a) x) s short_s ∙ get_or-set_other table (place_of a) (place_of s) x other elsewhere
      ∙ sym (entry-within other table s short_s)
  | inr past ↦
      let beyond : table_side ≤ s.col = grind (arith, nat_tests) in
      entry-past other (set table (place_of a) x) s beyond ∙ sym (entry-past other table s beyond)
]

blank_place : {X : Type 0} (other : X) (n k : ℕ) → get_or (replicate n other) k other ≡ other
blank_place other n k = elim (cases_lt k n) [
  | inl short ↦ get_or-replicate n k other other short
  | inr past ↦ get_or_past (replicate n other) k other (omega (arith, past, length-replicate n other))
]

-- each entry of a table with one value alone
pub entry-replicate : {X : Type 0} (other : X) (n : ℕ) (table : List X) → table ≡ replicate n other → (s : Spot) → entry other table s ≡ other
entry-replicate other n table blank s = elim (cases_lt s.col table_side) [
  | inl short ↦ entry-within other table s short ∙ ap (λ t. get_or t (place_of s) other) blank ∙ blank_place other n (place_of s)
  | inr past ↦ entry-past other table s past
]

-- None is cloned as None, where nothing else is a clone of it
pub clone-None : (R : Option ℕ → Type 0) → ((x : ℕ) → R (Some x) → ⊥) → (y : Option ℕ) → R y → y ≡ None
clone-None R none None e = refl
clone-None R none (Some x) e = absurd (none x e)

use Rattle.std.proofs.Common.{◌≡◌, ℕ, ◌<◌, ◌-◌, List, [], ◌∷◌, ◌++◌, length, Option, Some, None, option_map, slice_get, slice_index_or}
use Rattle.std.proofs.Common.{refl, ap, ◌∙◌, arith}
use Rattle.std.specs.Option.{option_to_list}
use Rattle.sqlite.specs.Order.{Row}
use Rattle.sok_sql.specs.Leaves.{Leaf, row_at, shown}
use Rattle.sok_sql.proofs.reading.row_at.Goals as goal

-- the last of a list with one row or none
popped : (id : ℕ) (o : Option Leaf) (n : ℕ) (rest : List Row) (result : Option Row) → n ≡ length (row_at id o) → row_at id o ≡ rest ++ option_to_list result
    → ((d : Row) → 0 < n → result ≡ Some (slice_index_or (row_at id o) (n - 1) d)) → result ≡ option_map (shown id) o
popped id None n rest None count whole last = refl
popped id None n [] (Some row) count whole last = absurd cc
popped id None n (r ∷ rest) (Some row) count whole last = absurd cc
popped id (Some leaf) n rest result count whole last =
    let one : n ≡ 1 = omega arith in
    last [] (omega arith) ∙ ap (λ k. Some (slice_index_or (shown id leaf ∷ []) (k - 1) [])) one

pub returns-in-Ok-clause-row : goal.returns-in-Ok-clause-row
returns-in-Ok-clause-row g c clean leaves index holds is =
    let read = c.in-Ok.ensures.rows clean leaves index holds is in
    let count : c.in-Ok.rows.len ≡ length (row_at c.args.id (slice_get leaves index)) = omega (arith, c.in-Ok.rows.ok, ap length read.1) in (
      read.0,
      popped c.args.id (slice_get leaves index) c.in-Ok.rows.len c.pop.new.self.items c.pop.result count
          (rw read.1 at c.pop.ensures.items) (rw read.1 at c.pop.ensures.value),
    )

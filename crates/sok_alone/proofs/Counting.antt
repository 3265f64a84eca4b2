-- More states than a search may have.
use Rattle.std.proofs.Common.{ℕ, ◌≤◌, Contains, arith, length}
use Rattle.std.specs.Map.{keys_of}
use Rattle.sok_rules.specs.States.{MoreStatesFrom}
use Rattle.sok_board.specs.Area.{BoardView, IsAccepted}
use Rattle.sok_state.specs.declared.key.Key.{Key}
use Rattle.sok_state.specs.Keys.{key_position}
use Rattle.sok_state.proofs.States.{key-of-itself}
use Rattle.sok_closed.proofs.Counting.{IsOfReached, one-more}
use Rattle.sok_alone.specs.declared.known.Known.{Known}
use Rattle.sok_alone.specs.Known.{IsKnown, IsReached}
use Rattle.sok_alone.proofs.Knowing.{as-many, reached-at}

-- a full table that lacks a state that is reached
pub full-more : (b : BoardView) → IsAccepted b → (start : Key) (limit : ℕ) (known : Known) → IsKnown b start limit known → limit ≤ length known.inner.items
    → (key : Key) → IsReached b start key → (Contains (keys_of known.table.entries) key → ⊥) → MoreStatesFrom b.rows (key_position b start) limit
full-more b accepted start limit known is full key reached absent =
    let few = is.few in
    let as_many = as-many b start limit known is in
    let of_reached : (other : Key) → IsReached b start other → IsOfReached b accepted (key_position b start) other =
    λ other one. record { itself = key-of-itself b accepted other one.state; reached = one.reached } in
    one-more b accepted (key_position b start) limit known.table.entries is.entered.rolled.table.distinct (omega (arith, full, few, as_many))
    (λ i other at. of_reached other (reached-at b start limit known is accepted i other at)) key (of_reached key reached) absent

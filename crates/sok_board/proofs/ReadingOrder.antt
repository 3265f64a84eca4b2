-- The places of rows are in reading order.
use Rattle.std.proofs.Common.{ℕ, ◌+◌, inr, inl, refl, sym, subst, List, [], ◌∷◌, AllPairs, arith, get_or}
use Rattle.sok_rules.specs.declared.cell.Cell.{Cell}
use Rattle.sok_rules.specs.declared.cell.Spot.{Spot}
use Rattle.sok_rules.specs.Squares.{Rows, places, places_from, places_in_row}
use Rattle.sok_rules.proofs.ReadingOrder.{length-places_in_row, get_or-places_in_row, row-places_in_row, below-places_from}
use Rattle.sok_board.specs.Area.{Before}
use Rattle.sok_board.proofs.Lists.{AllPairs-append}

in_order-places_in_row : (r c : ℕ) (cells : List Cell) → AllPairs Before (places_in_row r c cells)
in_order-places_in_row r c cells = λ i j d below within.
    let short = length-places_in_row r c cells in
    let first = get_or-places_in_row r c cells i d (omega (arith, below, within, short)) in
    let second = get_or-places_in_row r c cells j d (omega (arith, within, short)) in
    let rising : Before (record { row = r; col = c + i }) (record { row = r; col = c + j }) = inr (refl, omega (arith, below)) in
    subst (λ (s : Spot). Before s (get_or (places_in_row r c cells) j d)) (sym first)
    (subst (λ (s : Spot). Before (record { row = r; col = c + i }) s) (sym second) rising)

in_order-places_from : (r : ℕ) (rows : Rows) → AllPairs Before (places_from r rows)
unfolding places_from
in_order-places_from r [] = λ i j d below within. absurd (omega (arith, within))
in_order-places_from r (row ∷ rows) =
    AllPairs-append Before (places_in_row r 0 row) (places_from (r + 1) rows) (in_order-places_in_row r 0 row) (in_order-places_from (r + 1) rows)
    (λ i d within k e beyond.
    let first = row-places_in_row r 0 row i d within in
    let second = below-places_from (r + 1) rows k e beyond in
    inl (omega (arith, first, second)))

-- the places of rows are in reading order
pub in_order-places : (rows : Rows) → AllPairs Before (places rows)
unfolding places
in_order-places rows = in_order-places_from 0 rows

-- Sets of squares in two halves: 64 columns, and 64 columns to the right of them.
use Rattle.std.specs.Prelude.{ℕ, ◌<◌, ◌+◌, ◌-◌, ◌*◌, ◌%◌, ◌^◌, List, length, map, max, slice_index}
use Rattle.std.specs.List.{range_with_len}
use Rattle.sok_rules.specs.declared.cell.Spot.{Spot}
use Rattle.sok_board.specs.Spans.{word_bits}

-- the rows of both halves: a number for each row, in which the left half has the lowest bits
abbrev pub halves : List ℕ → List ℕ → List ℕ
halves low high =
    map (λ r. slice_index high r * 2 ^ word_bits + slice_index low r % 2 ^ word_bits) (range_with_len 0 (max (length low) (length high)))

-- each row fits a word
abbrev pub AreWords : List ℕ → Type 0
AreWords rows = (r : ℕ) → slice_index rows r < 2 ^ word_bits

-- a square of the right half with its column counted within that half, and back
abbrev pub within : Spot → Spot
within s = record { row = s.row; col = s.col - word_bits }

abbrev pub beyond : Spot → Spot
beyond s = record { row = s.row; col = s.col + word_bits }

-- a square with its column counted within its half
abbrev pub folded : Spot → Spot
folded s = record { row = s.row; col = s.col % word_bits }

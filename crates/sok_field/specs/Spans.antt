-- Spans: squares side by side, as bits of a word.
use Rattle.std.specs.Prelude.{ℕ, ◌≡◌, ◌<◌, ◌≤◌, ◌+◌, ◌-◌}
use Rattle.std.specs.Int.{bit_at}
use Rattle.sok_rules.specs.declared.cell.Spot.{Spot}
use Rattle.sok_board.specs.declared.spans.Span.{Span}

-- a square of a span
abbrev pub LiesOn : Span → Spot → Type 0
LiesOn span s = (s.row ≡ span.first.row) × (span.first.col ≤ s.col) × (s.col < span.first.col + span.length)

-- a bit of a word, as a square of a row
abbrev pub StandsIn : ℕ → ℕ → Spot → Type 0
StandsIn row word s = (s.row ≡ row) × (bit_at word s.col ≡ 1)

-- a bit of a word, as a number counted from `base`
abbrev pub IsPut : ℕ → ℕ → ℕ → Type 0
IsPut word base n = (base ≤ n) × (bit_at word (n - base) ≡ 1)

-- Bit rows and the numbers of a board's squares.
use Rattle.std.specs.Prelude.{◌/◌, ◌%◌, ℕ, ◌≡◌, ◌<◌, ◌≤◌, ◌↔◌, List, Some, Bool, true, length}
use Rattle.sok_rules.specs.declared.cell.Spot.{Spot}
use Rattle.sok_board.specs.Area.{BoardView, spot_of, number_of}
use Rattle.sok_board.specs.Spans.{word_bits}
use Rattle.sok_field.specs.Fields.{has, IsFirstSquare}
use Rattle.sok_field.specs.Trails.{Leads}
use Rattle.sok_field.specs.Ways.{Joined}

-- bit rows that have exactly the squares of a board whose numbers satisfy `P`
abbrev pub Draws : BoardView → (ℕ → Type 0) → List ℕ → Type 0
Draws b P rows = (s : Spot) → (has rows s ≡ true) ↔ ((n : ℕ) × (number_of b s ≡ Some n) × P n)

-- squares are joined exactly if their numbers are
abbrev pub JoinsNumbers : BoardView → Type 0
JoinsNumbers b =
    (lets : ℕ → Bool) (free : List ℕ) → Draws b (λ n. lets n ≡ true) free → (m n : ℕ) → m < length b.area → n < length b.area
    → Joined (has free) (spot_of b m) (spot_of b n) ↔ Leads b lets m n

-- each square that is joined to a square with a number has a number
abbrev pub JoinsInside : BoardView → Type 0
JoinsInside b =
    (lets : ℕ → Bool) (free : List ℕ) → Draws b (λ n. lets n ≡ true) free → (m : ℕ) (s : Spot) → m < length b.area → Joined (has free) (spot_of b m) s
    → (n : ℕ) × (number_of b s ≡ Some n)

-- the first square of a set has the least number
abbrev pub FirstIsLeast : BoardView → Type 0
FirstIsLeast b =
    (test : ℕ → Bool) (rows : List ℕ) (s : Spot) → Draws b (λ n. test n ≡ true) rows → IsFirstSquare (has rows) s
    → (n : ℕ) × (number_of b s ≡ Some n) × (test n ≡ true) × ((k : ℕ) → k < length b.area → test k ≡ true → n ≤ k)

-- where the bit of a number is
abbrev pub bit_of_number : ℕ → Spot
bit_of_number n = record { row = n / word_bits; col = n % word_bits }

-- whether a number is in a set of squares as bits by number
abbrev pub has_number : List ℕ → ℕ → Bool
has_number words n = has words (bit_of_number n)

-- the least number with a property
pub record IsLeast (holds : ℕ → Bool) (n : ℕ) : Type 0 where
  pub among : holds n ≡ true
  pub least : (k : ℕ) → holds k ≡ true → n ≤ k

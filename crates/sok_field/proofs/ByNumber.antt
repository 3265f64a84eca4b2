-- Bits by number: the first bit, word by word, is that of the least number.
use Rattle.std.proofs.Common.{ℕ, ◌≡◌, ◌<◌, ◌+◌, ◌*◌, inl, inr, List, ap, ◌∙◌, arith}
use Rattle.sok_rules.specs.declared.cell.Spot.{Spot}
use Rattle.sok_field.specs.Fields.{has, IsFirstSquare}
use Rattle.sok_field.specs.Numbers.{bit_of_number, has_number, IsLeast}
use Rattle.sok_field.proofs.OneSquare.{same_place}

-- the number whose bit stands at a place
abbrev pub number_at : Spot → ℕ
number_at s = s.row * 64 + s.col

bit_of_number-at : (s : Spot) → s.col < 64 → bit_of_number (number_at s) ≡ s
bit_of_number-at s within = same_place (bit_of_number (number_at s)) s (omega arith) (omega arith)

pub IsLeast-first : (words : List ℕ) (s : Spot) → s.col < 64 → IsFirstSquare (has words) s → IsLeast (has_number words) (number_at s)
IsLeast-first words s within first = record {
  among = ap (has words) (bit_of_number-at s within) ∙ first.among;
  least = λ k e. elim (first.first (bit_of_number k) e) [
    | inl same ↦
        let row = ap (λ (t : Spot). t.row) same in
        let col = ap (λ (t : Spot). t.col) same in
        omega (arith, row, col)
    | inr (inl over) ↦ omega (arith, over, within)
    | inr (inr (row, col)) ↦ omega (arith, row, col)
  ];
}

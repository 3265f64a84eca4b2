-- Where letters lead over passable squares, by their numbers.
use Rattle.std.specs.Prelude.{ℕ, ◌≡◌, List, [], ◌∷◌, Option, Some, None, Bool, if◌then◌else◌}
use Rattle.std.specs.Option.{option_and_then}
use Rattle.sok_rules.specs.declared.cell.Dir.{Dir}
use Rattle.sok_board.specs.Area.{BoardView, beside}

-- where letters lead from a square, if each square that they enter is passable
abbrev pub trail : BoardView → (ℕ → Bool) → ℕ → List Dir → Option ℕ
trail b lets s [] = Some s
trail b lets s (d ∷ w) = option_and_then (λ t. if lets t then trail b lets t w else None) (beside b s d)

abbrev pub Leads : BoardView → (ℕ → Bool) → ℕ → ℕ → Type 0
Leads b lets s t = (w : List Dir) × (trail b lets s w ≡ Some t)

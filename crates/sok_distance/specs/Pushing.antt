-- How far a lone box is from a goal (Sokoban Wiki, "Deadlocks").
use Rattle.std.specs.Prelude.{ℕ, ◌≡◌, ◌≤◌, List, [], ◌∷◌, Option, Some, None, Contains, length}
use Rattle.std.specs.Option.{option_and_then}
use Rattle.sok_rules.specs.declared.cell.Dir.{Dir}
use Rattle.sok_rules.specs.Squares.{opposite}
use Rattle.sok_board.specs.Area.{BoardView, beside, goals_of}

-- the square to which a push in a direction moves a box without others, if the player has a square to push from
abbrev pub lone_push : BoardView → Dir → ℕ → Option ℕ
lone_push b d s = option_and_then (λ _. beside b s d) (beside b s (opposite d))

abbrev pub lone_pushes : BoardView → ℕ → List Dir → Option ℕ
lone_pushes b s [] = Some s
lone_pushes b s (d ∷ w) = option_and_then (λ t. lone_pushes b t w) (lone_push b d s)

-- the push in reverse: the square from which a push in a direction brings a box, without others, to a square, if the player has a square to push from
abbrev pub pull : BoardView → Dir → ℕ → Option ℕ
pull b d t = option_and_then (λ s. option_and_then (λ _. Some s) (beside b s (opposite d))) (beside b t (opposite d))

-- a chain of n lone pushes leads from s to g
abbrev pub Chain : BoardView → ℕ → ℕ → ℕ → Type 0
Chain b s g n = (w : List Dir) × (lone_pushes b s w ≡ Some g) × (length w ≡ n)

abbrev pub IsDistance : BoardView → ℕ → ℕ → ℕ → Type 0
IsDistance b g s d = Chain b s g d × ((n : ℕ) → Chain b s g n → d ≤ n)

-- a box there reaches no goal
abbrev pub IsStuck : BoardView → ℕ → Type 0
IsStuck b s = (g n : ℕ) → Contains (goals_of b) g → Chain b s g n → ⊥

-- the distance from a square to a goal, or None if no chain leads there
abbrev pub TellsDistance : BoardView → ℕ → ℕ → Option ℕ → Type 0
TellsDistance b g s None = (n : ℕ) → Chain b s g n → ⊥
TellsDistance b g s (Some d) = IsDistance b g s d

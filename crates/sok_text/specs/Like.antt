-- Rows that can replace others, because they make the same level or have the same fault.
use Rattle.std.specs.Prelude.{◌≡◌, ◌<◌, List, [], ◌∷◌, ◌⊎◌, length}
use Rattle.sok_rules.specs.declared.cell.Cell.{Cell}
use Rattle.sok_rules.specs.Limits.{size_limit}
use Rattle.sok_rules.specs.Squares.{Rows}
use Rattle.sok_rules.specs.Levels.{trimmed}

-- two rows are the same without the floor at their ends, or both are too wide
abbrev pub IsLike : List Cell → List Cell → Type 0
IsLike row other = (trimmed row ≡ trimmed other) ⊎ ((size_limit < length (trimmed row)) × (size_limit < length (trimmed other)))

abbrev pub AreLike : Rows → Rows → Type 0
AreLike [] [] = Unit {0}
AreLike [] (other ∷ others) = ⊥
AreLike (row ∷ rows) [] = ⊥
AreLike (row ∷ rows) (other ∷ others) = IsLike row other × AreLike rows others

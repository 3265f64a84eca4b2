-- Characters of a text, by their codes.
use Rattle.std.specs.Prelude.{ℕ, List, [], ◌∷◌}

-- the code of the first character of a text, as in `code (codes "#")`
abbrev pub code : List ℕ → ℕ
code [] = 0
code (c ∷ rest) = c

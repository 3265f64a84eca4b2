-- Counts: digits before the character that they repeat.
use Rattle.std.specs.Prelude.{ℕ, List, [], ◌∷◌, Bool, false}
use Rattle.std.specs.Char.{is_ascii_digit}
use Rattle.std.specs.Str.Parse.{digits_value}

-- how often these digits repeat the character after them: once, if there are none
abbrev pub times : List ℕ → ℕ
times [] = 1
times (c ∷ digits) = digits_value 10 (c ∷ digits)

abbrev pub starts_with_digit : List ℕ → Bool
starts_with_digit [] = false
starts_with_digit (c ∷ text) = is_ascii_digit c

-- A number at the front of a text.
use Rattle.std.specs.Prelude.{ℕ, ◌≡◌, ◌≤◌, List, [], ◌∷◌, ◌++◌, decimal, drop, length, take}
use Rattle.std.specs.Str.Parse.{AllDigits, digits_value}
use Rattle.sok_entry.specs.Text.{IsSmall}

-- what may follow a number: nothing, or text that begins with a space
abbrev pub EndsNumber : List ℕ → Type 0
EndsNumber [] = Unit {0}
EndsNumber (c ∷ more) = c ≡ 32

-- the text begins with a number in decimal, of at most 1,000,000, and this follows it
pub record BeginsWith (text : List ℕ) (n : ℕ) (rest : List ℕ) : Type 0 where
  pub small : IsSmall n
  pub spelled : text ≡ decimal n ++ rest
  pub ends : EndsNumber rest

-- the text begins with this many digits, followed by a space or the end, and their value is at most 1,000,000
pub record HasDigits (text : List ℕ) (n count : ℕ) : Type 0 where
  pub small : IsSmall n
  pub within : count ≤ length text
  pub digits : AllDigits 10 (take count text)
  pub value : n ≡ digits_value 10 (take count text)
  pub ends : EndsNumber (drop count text)

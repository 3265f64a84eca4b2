-- Lines of one kind, and reading a text line by line.
use Rattle.std.specs.Prelude.{ℕ, ◌≡◌, List, [], ◌∷◌, ◌++◌, ◌⊎◌, Bool, false, All, if◌then◌else◌, ◌==◌, length, nat_lt, codes}
use Rattle.std.specs.List.{position_or_len, before_first, after_first}
use Rattle.std.specs.Str.Lines.{lines, strip_carriage_return}
use Rattle.sok_text.specs.Characters.{code}
use Rattle.sok_text.specs.Kinds.{AreOf, IsBoard}
use Rattle.sok_text.specs.declared.kind.Kind.{Kind}

abbrev pub is_newline : ℕ → Bool
is_newline c = c == code (codes "\n")

-- the first line of a text, without its end
unfoldable pub first_line : List ℕ → List ℕ
first_line text = if nat_lt (position_or_len is_newline text) (length text) then strip_carriage_return (before_first is_newline text) else text

-- the text after its first line
unfoldable pub after_line : List ℕ → List ℕ
after_line text = after_first is_newline text

-- a text without LF, so that no line ends in it
abbrev pub IsUnended : List ℕ → Type 0
IsUnended text = All (λ byte. is_newline byte ≡ false) text

-- a text is cut at its first LF
pub record IsCutAtEnd (text front rest : List ℕ) : Type 0 where
  pub whole : text ≡ front ++ 10 ∷ rest
  pub unended : IsUnended front

-- a place at which a text can be cut: its lines are those up to there, followed by those from there on
abbrev pub IsLineEnd : List ℕ → List ℕ → Type 0
IsLineEnd front rest = (rest ≡ []) ⊎ ((more : List ℕ) → lines (front ++ more) ≡ lines front ++ lines more)

-- between two places in a text there are only whole lines of one kind
pub record Passes (kind : Kind) (from to : List ℕ) : Type 0 where
  pub front : List ℕ
  pub whole : from ≡ front ++ to
  pub cut : IsLineEnd front to
  pub same : AreOf kind (lines front)

-- the lines between two places in a text are a board
pub record PassesBoard (from to : List ℕ) : Type 0 where
  pub front : List ℕ
  pub whole : from ≡ front ++ to
  pub cut : IsLineEnd front to
  pub board : IsBoard (lines front) (lines to)

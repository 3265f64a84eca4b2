-- The kinds of lines in a collection.
use Rattle.std.specs.Prelude.{ℕ, ◌≡◌, List, [], ◌∷◌, All, if◌then◌else◌}
use Rattle.sok_text.specs.declared.kind.Kind.{Kind}
use Rattle.sok_text.specs.declared.kind.Kind.TheVariants.{Row, Packed, Note}
use Rattle.sok_text.specs.Packed.{is_packed_line}
use Rattle.sok_text.specs.Xsb.{is_board_line}

-- the kind of a line: a line of a board, a packed line, or a note
abbrev pub kind_of : List ℕ → Kind
kind_of line = if is_board_line line then Row else if is_packed_line line then Packed else Note

-- all lines are of one kind
abbrev pub AreOf : Kind → List (List ℕ) → Type 0
AreOf kind ls = All (λ line. kind_of line ≡ kind) ls

-- the first line, if there is one, is of another kind
abbrev pub StartsOther : Kind → List (List ℕ) → Type 0
StartsOther kind [] = Unit {0}
StartsOther kind (line ∷ ls) = kind_of line ≡ kind → ⊥

-- a board, followed by the lines `left`: either board lines, as many as there are in a row, or one packed line
pub data IsBoard (board left : List (List ℕ)) : Type 0 where
  rows : (line : List ℕ) (more : List (List ℕ)) → board ≡ line ∷ more → AreOf Row board → StartsOther Row left → IsBoard board left
  packed : (line : List ℕ) → board ≡ line ∷ [] → kind_of line ≡ Packed → IsBoard board left

-- Marked text: the letters of a list, with those that push in upper case (Sokoban Wiki, "Level format", "Solution").
use Rattle.std.specs.Prelude.{ℕ, ◌≡◌, ◌≤◌, List, [], ◌∷◌, ◌++◌, Bool, true, false, IsSome, codes, length}
use Rattle.std.specs.Option.{option_map_or}
use Rattle.sok_rules.specs.declared.cell.Dir.{Dir}
use Rattle.sok_rules.specs.declared.cell.Dir.TheVariants.{Left, Up, Right, Down}
use Rattle.sok_rules.specs.Limits.{letter_limit}
use Rattle.sok_rules.specs.Squares.{Rows}
use Rattle.sok_rules.specs.Play.{Position, run, start, step}
use Rattle.sok_text.specs.Lurd.{Spells}

-- the letter of a direction, in upper case if it pushes
abbrev pub marked_letter : Dir → Bool → List ℕ
marked_letter Left true = codes "L"
marked_letter Left false = codes "l"
marked_letter Up true = codes "U"
marked_letter Up false = codes "u"
marked_letter Right true = codes "R"
marked_letter Right false = codes "r"
marked_letter Down true = codes "D"
marked_letter Down false = codes "d"

-- the marked text of a legal list: one letter for each direction
abbrev pub marked_text : Rows → Position → List Dir → List ℕ
marked_text rows x [] = []
marked_text rows x (d ∷ w) = option_map_or (λ after. marked_letter d after.pushed ++ marked_text rows after.position w) (step rows d x) []

-- the list is legal from the start of a level, and this is its marked text
pub record IsMarkedText (rows : Rows) (w : List Dir) (text : List ℕ) : Type 0 where
  pub legal : IsSome (run rows (start rows) w)
  pub is : text ≡ marked_text rows (start rows) w

-- a marked text spells its letters, if there are no more than a text may have
abbrev pub MarkedTextsSpell : Type 0
MarkedTextsSpell = (rows : Rows) (w : List Dir) (text : List ℕ) → IsMarkedText rows w text → length w ≤ letter_limit → Spells text w
